use Rattle.std.proofs.Common.{ℕ, List, [], ◌∷◌, ◌++◌, ◌∙◌, map, ap}
use Rattle.prov_entry.specs.Spelling.{leaf_bytes}
use Rattle.answer_exposing.proofs.OneMore.{text_goes_on}
use Rattle.answer_exposing.proofs.leaves.bytes_of_leaves.Goals as goal

pub loop-index-preserved : goal.loop-index-preserved
loop-index-preserved c =
    text_goes_on leaf_bytes c.args.tree.now c.loop-index.index c.leaf.result c.loop-index.list
    c.push.new.self (map leaf_bytes c.args.tree.now) c.leaf.ensures
    (c.in_ok-push.ensures.ok
    ∙ ap (λ (bytes : List ℕ). c.loop-index.list ++ bytes ∷ [])
    c.in_ok-write_leaf.ensures.spelled) c.loop-index.invariant
