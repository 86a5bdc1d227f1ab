use Rattle.std.proofs.Common.{map, drop}
use Rattle.merkle_tree.specs.Tree.{leaf_text}
use Rattle.answer_exposing.proofs.Onward.{SearchesUpTo}
use Rattle.answer_exposing.proofs.leaves.search_leaves.Given as goal

abbrev pub invariant-loop-leaf : goal.invariant-loop-leaf
invariant-loop-leaf l = SearchesUpTo (map leaf_text (drop l.leaf-index l.leaves)) (map leaf_text
    l.leaves) l.fn.search l.search
