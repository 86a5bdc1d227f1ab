use Rattle.std.proofs.Common.{◌≡◌, length}
use Rattle.ledger_tests.proofs.lineages.chain_of.Given as goal

abbrev pub invariant-loop-block : goal.invariant-loop-block
invariant-loop-block g l = record {
  agrees : g.C.Replay.agrees l.chain (g.S.Scratch.state l.scratch);
  count : length (g.C.Replay.kept l.chain).digests ≡ l.block-index;
}
