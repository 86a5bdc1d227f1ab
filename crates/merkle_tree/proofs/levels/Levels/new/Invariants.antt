use Rattle.std.proofs.Common.{◌≡◌, [], replicate}
use Rattle.merkle_tree.specs.Levels.{hashes_in}
use Rattle.merkle_tree.proofs.levels.Levels.new.Given as goal

abbrev pub invariant-loop : goal.invariant-loop
invariant-loop l = hashes_in l.levels.items ≡ replicate l.counter []
