use Rattle.proof_verifier.proofs.Sounded.{read_exact, read_spelled, read_sound, read_value}
use Rattle.proof_verifier.proofs.Sounded.{unread_exact, unread_malformed}
use Rattle.proof_verifier.proofs.verifying.verify.Goals as goal

pub returns-in-Ok-clause-spelled : goal.returns-in-Ok-clause-spelled
returns-in-Ok-clause-spelled c = λ given is. read_spelled c.args.root.now.0 c.args.query.now c.in-Ok.view given c.judge_for.result (c.in-Ok.ensures.only given is) c.judge_for.ensures

pub returns-in-Ok-clause-malformed : goal.returns-in-Ok-clause-malformed
returns-in-Ok-clause-malformed c = λ none. absurd (none c.in-Ok.view c.in-Ok.ensures.found)

pub returns-in-Ok-clause-sound : goal.returns-in-Ok-clause-sound
returns-in-Ok-clause-sound c = λ given is.
    read_sound c.args.root.now.0 c.args.query.now given c.judge_for.result is.lawful (read_spelled c.args.root.now.0 c.args.query.now c.in-Ok.view given c.judge_for.result (c.in-Ok.ensures.only given is) c.judge_for.ensures)

pub returns-in-Ok-clause-value : goal.returns-in-Ok-clause-value
returns-in-Ok-clause-value c = read_value c.args.root.now.0 c.args.query.now c.in-Ok.view c.judge_for.result c.in-Ok.ensures.found.lawful c.judge_for.ensures

pub returns-in-Ok-clause-exact : goal.returns-in-Ok-clause-exact
returns-in-Ok-clause-exact c = read_exact c.args.root.now.0 c.args.query.now c.args.proof.now c.in-Ok.view c.judge_for.result c.in-Ok.ensures.exact c.judge_for.ensures

pub returns-in-Err-clause-spelled : goal.returns-in-Err-clause-spelled
returns-in-Err-clause-spelled c = λ given is. absurd (let no = c.in-Err.ensures.only given is in cc)

pub returns-in-Err-clause-malformed : goal.returns-in-Err-clause-malformed
returns-in-Err-clause-malformed c = λ none. unread_malformed _ c.in-Err.error c.fault_of_view.result c.fault_of_view.ensures c.in-Err.ensures.fault

pub returns-in-Err-clause-exact : goal.returns-in-Err-clause-exact
returns-in-Err-clause-exact c = unread_exact c.args.root.now.0 c.args.query.now c.args.proof.now c.in-Err.error c.fault_of_view.result c.fault_of_view.ensures c.in-Err.ensures.exact
