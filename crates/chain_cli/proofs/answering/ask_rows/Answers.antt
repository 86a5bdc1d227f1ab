use Rattle.std.proofs.Common.{Some, Ok, refl}
use Rattle.chain_exec.specs.Compiled.{compiled_in}
use Rattle.cli_words.specs.declared.words.Command.TheVariants.{Ask}
use Rattle.cli_output.specs.Output.{ask_outcome, question_in}
use Rattle.cli_output.specs.declared.stop.OutcomeStop.{OutcomeStop}
use Rattle.cli_output.proofs.Ends.{asked_ends, no_start_ends}
use Rattle.cli_output.proofs.Found.{asked_found, no_start_found}
use Rattle.chain_cli.proofs.Runs.{asked_over}
use Rattle.chain_cli.proofs.answering.ask_rows.Goals as goal

pub returns-in_ok-stored_outcome-in-Ok-clause-found :
    goal.returns-in_ok-stored_outcome-in-Ok-clause-found
returns-in_ok-stored_outcome-in-Ok-clause-found g c left held =
    asked_found (g.M.Clock.disk c.args.machine.now (g.M.Clock.now c.args.machine.now))
    (Ask c.args.asked.now) c.in-Ok.chain (Ok c.in_ok-stored_outcome-in-Ok.field-0) left left held
    refl (λ heard. c.in-Ok.ensures.answer)
    (λ heard. asked_over c.in-Ok.chain (Ok c.in_ok-stored_outcome-in-Ok.field-0)
    (λ blocks. ask_outcome compiled_in (question_in c.args.asked.now blocks) blocks) left
    c.in_ok-stored_outcome-in-Ok.ensures.outcome)

pub returns-in_ok-stored_outcome-in-Ok-clause-ends :
    goal.returns-in_ok-stored_outcome-in-Ok-clause-ends
returns-in_ok-stored_outcome-in-Ok-clause-ends g c =
    asked_ends {E = OutcomeStop} (Ok c.in_ok-stored_outcome-in-Ok.field-0)
    (Some (Ask c.args.asked.now)) refl c.in_ok-stored_outcome-in-Ok.ensures.ends

pub returns-in-Err-clause-found : goal.returns-in-Err-clause-found
returns-in-Err-clause-found g c left held =
    no_start_found (g.M.Clock.disk c.args.machine.now (g.M.Clock.now c.args.machine.now))
    (Ask c.args.asked.now) c.in-Err.error c.start_outcome.result left held
    refl (λ heard. c.in-Err.ensures.answer) c.start_outcome.ensures.outcome

pub returns-in-Err-clause-ends : goal.returns-in-Err-clause-ends
returns-in-Err-clause-ends g c =
    no_start_ends c.start_outcome.result c.in-Err.error (Some (Ask c.args.asked.now)) refl
    c.start_outcome.ensures.outcome c.start_outcome.ensures.reads
    (λ failed. absurd (c.in-Err.ensures.no_scratch_fault
    (cc (c.start_outcome.ensures.scratch_fault failed))))
