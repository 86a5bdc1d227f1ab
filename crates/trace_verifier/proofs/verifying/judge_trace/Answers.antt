use Rattle.trace_verifier.proofs.Judged.{start_fails, start_passes, start_refuses}
use Rattle.trace_verifier.proofs.verifying.judge_trace.Goals as goal

pub returns-in-Ok-clause-judged : goal.returns-in-Ok-clause-judged
returns-in-Ok-clause-judged c =
    start_passes c.args.root.now.0 c.args.key.now c.args.at c.args.trace.now c.start.result.now
    c.start.ensures c.in-Ok.block c.judge_items.result c.in-Ok.ensures c.judge_items.ensures.judged

pub returns-in-Err-clause-judged : goal.returns-in-Err-clause-judged
returns-in-Err-clause-judged c =
    start_fails c.args.root.now.0 c.args.key.now c.args.at c.args.trace.now c.start.result.now
    c.start.ensures c.in-Err.fault c.in-Err.ensures

pub returns-in-Ok-clause-refused : goal.returns-in-Ok-clause-refused
returns-in-Ok-clause-refused c =
    start_refuses c.args.root.now.0 c.args.key.now c.args.at c.args.trace.now c.start.result.now
    c.start.ensures c.in-Ok.block c.judge_items.result c.in-Ok.ensures c.judge_items.ensures.refused
