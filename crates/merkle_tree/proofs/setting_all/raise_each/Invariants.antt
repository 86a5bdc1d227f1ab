use Rattle.std.proofs.Common.{◌≡◌, ◌++◌, take, drop}
use Rattle.std.specs.Prelude.{IfSome}
use Rattle.merkle_tree.specs.Levels.{over_each, StandsOver}
use Rattle.merkle_tree.proofs.setting_all.raise_each.Given as goal

abbrev pub invariant-loop-one : goal.invariant-loop-one
invariant-loop-one l = record {
  raised : take l.one-index l.hashes ++ over_each l.fn.level (drop l.one-index l.hashes) ≡ over_each l.fn.level l.fn.hashes;
  before : IfSome l.before (StandsOver l.fn.level);
}
