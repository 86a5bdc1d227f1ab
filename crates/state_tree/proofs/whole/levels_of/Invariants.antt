use Rattle.std.proofs.Common.{◌≡◌, take}
use Rattle.state_tree.specs.Leaves.{leaf_hashes}
use Rattle.state_tree.proofs.whole.levels_of.Given as goal

abbrev pub invariant-loop-index : goal.invariant-loop-index
invariant-loop-index l = l.levels ≡ leaf_hashes (take l.index l.leaves)
