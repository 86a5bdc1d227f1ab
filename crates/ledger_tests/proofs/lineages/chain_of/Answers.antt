use Rattle.std.proofs.Common.{ap, length}
use Rattle.chain_replay.specs.Chain.{ChainState}
use Rattle.ledger_tests.proofs.lineages.chain_of.Goals as goal

pub loop-block-init : goal.loop-block-init
loop-block-init g c = record {
  agrees = c.in-Ok.ensures.agrees _;
  count = ap (λ (kept : ChainState). length kept.digests) c.in-Ok.ensures.kept;
}
