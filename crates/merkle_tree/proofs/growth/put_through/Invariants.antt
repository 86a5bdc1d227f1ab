use Rattle.std.proofs.Common.{◌≡◌, ◌++◌, take, drop}
use Rattle.std.specs.List.{All}
use Rattle.merkle_tree.specs.Levels.{hashes_in, put_through, HasRoom}
use Rattle.merkle_tree.proofs.growth.put_through.Given as goal

abbrev pub invariant-loop-level : goal.invariant-loop-level
invariant-loop-level l = record {
  grown : hashes_in (take l.level-index l.levels) ++ put_through l.place l.over (hashes_in (drop l.level-index l.levels))
      ≡ put_through l.fn.index l.fn.hash (hashes_in l.fn.levels);
  room : All HasRoom (drop l.level-index l.levels);
}
