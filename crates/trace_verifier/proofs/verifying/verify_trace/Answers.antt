use Rattle.trace_verifier.proofs.Malformed.{one_offset}
use Rattle.trace_verifier.proofs.Verified.{read_exact, read_spelled, read_start, read_refused}
use Rattle.trace_verifier.proofs.Verified.{read_sound}
use Rattle.trace_verifier.proofs.Verified.{unread_exact, unread_malformed}
use Rattle.trace_verifier.proofs.verifying.verify_trace.Goals as goal

pub returns-in-Ok-clause-spelled : goal.returns-in-Ok-clause-spelled
returns-in-Ok-clause-spelled c =
    λ given is. read_spelled c.args.root.now.0 c.args.key.now c.args.at c.args.bytes.now
    c.in-Ok.trace given c.judge_trace.result (c.in-Ok.ensures.only given is)
    c.judge_trace.ensures.judged

pub returns-in-Ok-clause-start : goal.returns-in-Ok-clause-start
returns-in-Ok-clause-start c =
    λ given is. read_start c.args.root.now.0 c.args.key.now c.args.at c.args.bytes.now
    c.in-Ok.trace given _ (c.in-Ok.ensures.only given is) c.judge_trace.ensures.start

pub returns-in-Ok-clause-refused : goal.returns-in-Ok-clause-refused
returns-in-Ok-clause-refused c =
    λ given is. read_refused c.args.root.now.0 c.args.key.now c.args.at c.args.bytes.now
    c.in-Ok.trace given c.judge_trace.result (c.in-Ok.ensures.only given is)
    c.judge_trace.ensures.refused

pub returns-in-Ok-clause-one_offset : goal.returns-in-Ok-clause-one_offset
returns-in-Ok-clause-one_offset c = one_offset c.args.bytes.now

pub returns-in-Ok-clause-malformed : goal.returns-in-Ok-clause-malformed
returns-in-Ok-clause-malformed c = λ none. absurd (none c.in-Ok.trace c.in-Ok.ensures.found)

pub returns-in-Ok-clause-sound : goal.returns-in-Ok-clause-sound
returns-in-Ok-clause-sound c =
    λ given is. read_sound c.args.root.now.0 c.args.key.now c.args.at c.args.bytes.now
    given c.judge_trace.result is.lawful
    (read_spelled c.args.root.now.0 c.args.key.now c.args.at c.args.bytes.now
    c.in-Ok.trace given c.judge_trace.result (c.in-Ok.ensures.only given is)
    c.judge_trace.ensures.judged)

pub returns-in-Ok-clause-exact : goal.returns-in-Ok-clause-exact
returns-in-Ok-clause-exact c =
    read_exact c.args.root.now.0 c.args.key.now c.args.at c.args.bytes.now
    c.in-Ok.trace c.judge_trace.result c.in-Ok.ensures.exact c.judge_trace.ensures.judged

pub returns-in-Err-clause-spelled : goal.returns-in-Err-clause-spelled
returns-in-Err-clause-spelled c =
    λ given is. absurd (let no = c.in-Err.ensures.only given is in cc)

pub returns-in-Err-clause-start : goal.returns-in-Err-clause-start
returns-in-Err-clause-start c =
    λ given is. absurd (let no = c.in-Err.ensures.only given is in cc)

pub returns-in-Err-clause-malformed : goal.returns-in-Err-clause-malformed
returns-in-Err-clause-malformed c =
    λ none. unread_malformed _ c.in-Err.error c.fault_of_view.result c.fault_of_view.ensures
    c.in-Err.ensures.fault

pub returns-in-Err-clause-one_offset : goal.returns-in-Err-clause-one_offset
returns-in-Err-clause-one_offset c = one_offset c.args.bytes.now

pub returns-in-Err-clause-exact : goal.returns-in-Err-clause-exact
returns-in-Err-clause-exact c =
    unread_exact c.args.root.now.0 c.args.key.now c.args.at c.args.bytes.now
    c.in-Err.error c.fault_of_view.result c.fault_of_view.ensures c.in-Err.ensures.exact
