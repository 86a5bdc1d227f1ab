use Rattle.std.proofs.Common.{arith}
use Rattle.contract_check.proofs.Noting.{one_less_noted}
use Rattle.contract_check.proofs.indexes.forget_indexes.Goals as goal

pub loop-index-preserved : goal.loop-index-preserved
loop-index-preserved g c = (
  one_less_noted c.args.entries.now c.loop-index.indexes c.forget_index.new.indexes c.loop-index.index c.index-entries-index.result (omega (arith, c.loop-index-test.true)) c.loop-index.auto.index c.loop-index.invariant.0 c.forget_index.ensures,
  omega (arith, c.loop-index-test.true),
)
