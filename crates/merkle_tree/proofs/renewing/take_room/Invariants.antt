use Rattle.std.proofs.Common.{◌≡◌, ◌++◌, List, take, Vec, Global}
use Rattle.lc_base.specs.declared.digest.Digest.{Digest}
use Rattle.merkle_tree.specs.Levels.{hashes_in, HaveRoom}
use Rattle.merkle_tree.proofs.renewing.take_room.Given as goal

abbrev pub invariant-loop-level : goal.invariant-loop-level
invariant-loop-level l = record {
  same : hashes_in l.levels ≡ hashes_in l.fn.levels;
  room : (rest : List (Vec Digest Global)) → HaveRoom l.wanted rest → HaveRoom l.fn.count (take l.level-index l.levels ++ rest);
}
