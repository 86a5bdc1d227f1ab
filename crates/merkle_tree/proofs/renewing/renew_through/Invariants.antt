use Rattle.std.proofs.Common.{◌≡◌, ◌++◌, take, drop}
use Rattle.merkle_tree.specs.Levels.{hashes_in, renew_through, HaveRoom}
use Rattle.merkle_tree.proofs.renewing.renew_through.Given as goal

abbrev pub invariant-loop-level : goal.invariant-loop-level
invariant-loop-level l = record {
  renewed : hashes_in (take l.level-index l.levels) ++ renew_through l.wanted l.over.items (hashes_in (drop l.level-index l.levels))
      ≡ renew_through l.fn.count l.fn.hashes.items (hashes_in l.fn.levels);
  room : HaveRoom l.wanted (drop l.level-index l.levels);
}
