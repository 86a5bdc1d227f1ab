use Rattle.std.proofs.lemmas.Bool.{eqb-true}
use Rattle.body_store.proofs.Pairs.{put_pairs}
use Rattle.body_store.proofs.cache.keep.Goals as goal

pub returns-in-Ok-clause-at_hand : goal.returns-in-Ok-clause-at_hand
returns-in-Ok-clause-at_hand c = put_pairs _ c.args.cache.now _ c.args.index c.args.body
    (λ a b t. eqb-true a.0 b.0 t) c.in-Ok.ensures.entries
