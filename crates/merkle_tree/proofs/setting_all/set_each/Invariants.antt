use Rattle.std.proofs.Common.{◌≡◌, drop}
use Rattle.merkle_tree.specs.Levels.{set_each}
use Rattle.merkle_tree.proofs.setting_all.set_each.Given as goal

abbrev pub invariant-loop-one : goal.invariant-loop-one
invariant-loop-one l = set_each l.level (drop l.one-index l.hashes) ≡ set_each l.fn.level l.fn.hashes
