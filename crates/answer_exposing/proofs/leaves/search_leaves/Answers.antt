use Rattle.std.proofs.Common.{◌∙◌, ◌∷◌, [], ℕ, List, map, ap, subst, arith}
use Rattle.merkle_tree.specs.Tree.{leaf_text}
use Rattle.text_clashes.specs.Searching.{Searches}
use Rattle.answer_exposing.proofs.Onward.{one_goes_on, ones_end}
use Rattle.answer_exposing.proofs.leaves.search_leaves.Goals as goal

pub loop-leaf-preserved : goal.loop-leaf-preserved
loop-leaf-preserved c =
    let leaves = c.args.leaves.now in
    let mid = c.loop-leaf.search in
    let new = c.add.new.self in
    one_goes_on leaf_text leaves c.loop-leaf.leaf-index c.leaf-item.result (map leaf_text leaves)
    c.args.search.now mid new c.loop-leaf-test.true c.leaf-item.is c.loop-leaf.invariant
    (subst (λ (text : List ℕ). Searches (text ∷ []) mid new)
    (c.in_ok-tagged_text.ensures ∙ ap leaf_text c.as_bytes.ensures) c.add.ensures)

pub returns : goal.returns
returns c = ones_end leaf_text c.args.leaves.now c.loop-leaf.leaf-index
    (map leaf_text c.args.leaves.now) c.args.search.now c.loop-leaf.search
    (omega (arith, c.loop-leaf-test.false)) c.loop-leaf.invariant
