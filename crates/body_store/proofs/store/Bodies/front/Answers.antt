use Rattle.std.proofs.Common.{◌≡◌, ℕ, List, [], take, sym, ap, subst, ◌∙◌}
use Rattle.body_store.specs.Agreement.{Agrees}
use Rattle.body_store.specs.Bodies.{KeptBody, BodiesState}
use Rattle.body_store.specs.Cached.{pairs_of}
use Rattle.body_store.proofs.Agreeing.{agrees_front}
use Rattle.body_store.proofs.store.Bodies.front.Goals as goal

pub returns-clause-agrees : goal.returns-clause-agrees
returns-clause-agrees c scratch agrees =
    let kept : c.in_ok-kept.kept ≡ take c.args.count c.args.self.now.kept = c.in_ok-kept.ensures
    ∙ ap (λ (s : BodiesState). take c.args.count s.kept) c.self.view_is in
    let cached : pairs_of c.in_ok-cache.cache.entries ≡ [] = ap pairs_of c.in_ok-cache.ensures.none in
    subst (λ (ks : List KeptBody). Agrees
    (record { kept = ks; cached = pairs_of c.in_ok-cache.cache.entries }) scratch) (sym kept)
    (subst (λ (ps : List (ℕ × List ℕ)). Agrees
    (record { kept = take c.args.count c.args.self.now.kept; cached = ps }) scratch)
    (sym cached) (agrees_front c.args.self.now c.args.count scratch agrees))
