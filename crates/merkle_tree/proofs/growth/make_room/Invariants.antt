use Rattle.std.proofs.Common.{◌≡◌, take}
use Rattle.std.specs.List.{All}
use Rattle.merkle_tree.specs.Levels.{hashes_in, HasRoom}
use Rattle.merkle_tree.proofs.growth.make_room.Given as goal

abbrev pub invariant-loop-level : goal.invariant-loop-level
invariant-loop-level l =
    (hashes_in l.levels ≡ hashes_in l.fn.levels) × All HasRoom (take l.level-index l.levels)
