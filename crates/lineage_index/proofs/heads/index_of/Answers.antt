use Rattle.std.proofs.Common.{◌≡◌, ◌∙◌, ◌+◌, ◌-◌, ℕ, Some, None, ap, arith}
use Rattle.lineage_index.proofs.KeyLeaves.{place_found, place_is_index}
use Rattle.lineage_index.proofs.heads.index_of.Goals as goal

pub returns-in-None-clause-place : goal.returns-in-None-clause-place
returns-in-None-clause-place c keys entry is = place_found c.args.tree.now keys entry c.args.key.now None is c.in-None.ensures

pub returns-in-Some-clause-place : goal.returns-in-Some-clause-place
returns-in-Some-clause-place c keys entry is =
    place_is_index keys c.args.key.now (Some c.in-Some.index) (place_found c.args.tree.now keys entry c.args.key.now (Some c.in-Some.index) is c.in-Some.ensures)

pub returns-in-Some-clause-leaf : goal.returns-in-Some-clause-leaf
returns-in-Some-clause-leaf c =
    let given = c.requires in
    let place = place_found c.args.tree.now given.0 given.1 c.args.key.now (Some c.in-Some.index)
    given.2 c.in-Some.ensures in
    let same : c.in-Some.index - 1 + 1 ≡ c.in-Some.index = omega (arith, place.1) in
    ap (λ (index : ℕ). Some index) same ∙ c.in-Some.ensures
