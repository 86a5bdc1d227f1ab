use Rattle.std.proofs.Common.{◌≡◌, ◌++◌, drop}
use Rattle.merkle_tree.specs.Levels.{hashes_in, siblings_up}
use Rattle.merkle_tree.proofs.reading.siblings_up.Given as goal

abbrev pub invariant-loop-level : goal.invariant-loop-level
invariant-loop-level l = l.path.items ++ siblings_up l.place (hashes_in (drop l.level-index l.levels)) ≡ siblings_up l.fn.index (hashes_in l.fn.levels)
