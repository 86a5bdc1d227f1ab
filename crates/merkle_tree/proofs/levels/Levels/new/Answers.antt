use Rattle.std.proofs.Common.{arith}
use Rattle.merkle_tree.proofs.Top.{are_new}
use Rattle.merkle_tree.proofs.levels.Levels.new.Goals as goal

pub invariant_of-result : goal.invariant_of-result
invariant_of-result c = are_new _ c.loop.counter c.loop.invariant (omega arith)
