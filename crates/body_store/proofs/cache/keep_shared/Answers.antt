use Rattle.std.proofs.Common.{◌≡◌, ℕ, List, Contains, ◌⊎◌, subst}
use Rattle.body_store.specs.Cached.{pairs_of}
use Rattle.body_store.proofs.cache.keep_shared.Goals as goal

pub returns-in-Ok-clause-at_hand : goal.returns-in-Ok-clause-at_hand
returns-in-Ok-clause-at_hand c pair at_hand =
    subst (λ (bytes : List ℕ). Contains (pairs_of c.args.cache.now.entries) pair
    ⊎ (pair ≡ (c.args.index.0, bytes))) c.in-Ok.ensures.cases (c.keep.ensures.at_hand pair at_hand)
