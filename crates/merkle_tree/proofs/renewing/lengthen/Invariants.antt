use Rattle.std.proofs.Common.{◌≡◌, ◌≤◌, ◌-◌, length}
use Rattle.std.specs.Prelude.{vec_capacity}
use Rattle.merkle_tree.specs.Levels.{level_of_length}
use Rattle.merkle_tree.proofs.renewing.lengthen.Given as goal

abbrev pub invariant-loop-level : goal.invariant-loop-level
invariant-loop-level l = record {
  longer : level_of_length l.level.items l.count ≡ level_of_length l.fn.level.items l.count;
  room : l.count ≤ vec_capacity l.level;
}

abbrev pub decreases-loop-level : goal.decreases-loop-level
decreases-loop-level l = l.count - length l.level.items
