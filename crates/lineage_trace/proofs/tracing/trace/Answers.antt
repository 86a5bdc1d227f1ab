use Rattle.std.proofs.Common.{arith}
use Rattle.lineage_trace.proofs.Counts.{stays_counted}
use Rattle.lineage_trace.proofs.Whole.{few_lookups}
use Rattle.lineage_trace.proofs.tracing.trace.Goals as goal

pub returns-then-is_none-clause-rises : goal.returns-then-is_none-clause-rises
returns-then-is_none-clause-rises g c known =
    stays_counted _ c.args.steps.now (omega (arith, c.count-steps.type_inv, c.count-steps.ensures))

pub returns-clause-few : goal.returns-clause-few
returns-clause-few g c known =
    few_lookups c.args.lineage.now.rows c.args.lineage.now.digests c.args.key.now c.args.at
    c.args.steps.now c.trace_rows.new.steps c.trace_steps_are_few.ensures
    c.row_count-count.ensures.ledger (c.trace_rows.ensures.rises known).1

pub returns-in_err-trace_rows-clause-few : goal.returns-in_err-trace_rows-clause-few
returns-in_err-trace_rows-clause-few g c known =
    few_lookups c.args.lineage.now.rows c.args.lineage.now.digests c.args.key.now c.args.at
    c.args.steps.now c.trace_rows.new.steps c.trace_steps_are_few.ensures
    c.row_count-count.ensures.ledger (c.trace_rows.ensures.rises known).1
