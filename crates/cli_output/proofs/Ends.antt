-- A command that printed an outcome, or found none, ends only with statuses that it may end with.
use Rattle.std.proofs.Common.{◌≡◌, true, [], ◌∷◌, Option, Some, None, Result, Ok, Err, refl, sym}
use Rattle.std.proofs.Common.{subst}
use Rattle.std.specs.Prelude.{IfOk, IfErr}
use Rattle.cli_words.specs.declared.words.Command.{Command}
use Rattle.cli_promises.specs.cli_lines.Lines.{not_a_log_line, damaged_line}
use Rattle.cli_promises.specs.cli_lines.Outcome.{status_of, outcome_with}
use Rattle.cli_promises.specs.cli_lines.declared.outcome.Outcome.{Outcome}
use Rattle.cli_promises.specs.cli_lines.declared.outcome.Ending.{Ending}
use Rattle.cli_promises.specs.cli_lines.declared.outcome.Ending.TheVariants as endings
use Rattle.cli_promises.specs.recovery.declared.errors.StartError.{StartError}
use Rattle.cli_promises.specs.recovery.declared.errors.StartError.TheVariants as starts
use Rattle.cli_output.specs.Uses.{reads_input, asks_for_block, uses_disk, uses_scratch}
use Rattle.cli_output.specs.Running.{MayEnd}
use Rattle.cli_output.specs.Scanning.{EndsAsked}
use Rattle.cli_output.specs.Telling.{status_of_result, status_of_stop, status_of_found}
use Rattle.cli_output.specs.Telling.{start_outcome}
use Rattle.cli_output.specs.declared.stop.OutcomeStop.{OutcomeStop}
use Rattle.cli_output.specs.declared.stop.OutcomeStop.TheVariants as outcomes
use Rattle.cli_promises.specs.declared.ending.RunStop.{RunStop}
use Rattle.cli_promises.specs.declared.ending.RunStop.TheVariants as stops

-- an outcome that was printed, or whose printing failed
told_ends : (outcome : Outcome) (result : Result Ending RunStop) (command : Option Command)
    → IfOk result (λ ending. ending ≡ outcome.ending) → IfErr result (λ stop. stop ≡ stops.Untold)
    → MayEnd (status_of outcome.ending) command → MayEnd (status_of_result result) command
told_ends outcome (Ok ending) command same halts ends =
    subst (λ (e : Ending). MayEnd (status_of e) command) (sym same) ends
told_ends outcome (Err stop) command same halts ends =
    subst (λ (s : RunStop). MayEnd (status_of_stop s) command) (sym halts) tt

-- the outcome that was found
pub found_ends : (found : Result Outcome OutcomeStop) (outcome : Outcome)
    (result : Result Ending RunStop) (command : Option Command) → found ≡ Ok outcome
    → IfOk result (λ ending. ending ≡ outcome.ending)
    → IfErr result (λ stop. stop ≡ stops.Untold) → MayEnd (status_of_found found) command
    → MayEnd (status_of_result result) command
found_ends found outcome result command is same halts ends = told_ends outcome result command same
    halts (subst (λ (f : Result Outcome OutcomeStop). MayEnd (status_of_found f) command) is ends)

-- ---- what was found

-- a command may end so if it may end as its outcome does, and stops only at what it uses
pub may_end : (found : Result Outcome OutcomeStop) (command : Option Command)
    → IfOk found (λ outcome. MayEnd (status_of outcome.ending) command)
    → (found ≡ Err outcomes.Unreadable → reads_input command ≡ true)
    → (found ≡ Err outcomes.DiskFault → uses_disk command ≡ true)
    → (found ≡ Err outcomes.ScratchFault → uses_scratch command ≡ true)
    → MayEnd (status_of_found found) command
may_end (Ok outcome) command ends reads disk scratch = ends
may_end (Err outcomes.Unreadable) command ends reads disk scratch = reads refl
may_end (Err outcomes.DiskFault) command ends reads disk scratch = disk refl
may_end (Err outcomes.ScratchFault) command ends reads disk scratch = scratch refl
may_end (Err outcomes.Memory) command ends reads disk scratch = tt

-- what is found where nothing can be started
start_ends : (error : StartError) (outcome : Outcome) (command : Option Command)
    → uses_disk command ≡ true → start_outcome error ≡ Ok outcome
    → MayEnd (status_of outcome.ending) command
start_ends starts.NotALog outcome command uses is =
    let same : outcome_with (not_a_log_line ∷ []) endings.NotALog ≡ outcome = cc is in
    subst (λ (o : Outcome). MayEnd (status_of o.ending) command) same uses
start_ends (starts.Damaged at) outcome command uses is =
    let same : outcome_with (damaged_line at ∷ []) endings.Damaged ≡ outcome = cc is in
    subst (λ (o : Outcome). MayEnd (status_of o.ending) command) same uses
start_ends starts.DiskFault outcome command uses is = absurd (cc is)
start_ends starts.ScratchFault outcome command uses is = absurd (cc is)
start_ends starts.Memory outcome command uses is = absurd (cc is)

pub no_start_ends : (found : Result Outcome OutcomeStop) (error : StartError)
    (command : Option Command) → uses_disk command ≡ true
    → IfOk found (λ outcome. start_outcome error ≡ Ok outcome)
    → (found ≡ Err outcomes.Unreadable → ⊥)
    → (found ≡ Err outcomes.ScratchFault → uses_scratch command ≡ true)
    → MayEnd (status_of_found found) command
no_start_ends (Ok outcome) error command uses is reads keeps = start_ends error outcome command uses
    is
no_start_ends (Err outcomes.Unreadable) error command uses is reads keeps = absurd (reads refl)
no_start_ends (Err outcomes.DiskFault) error command uses is reads keeps = uses
no_start_ends (Err outcomes.ScratchFault) error command uses is reads keeps = keeps refl
no_start_ends (Err outcomes.Memory) error command uses is reads keeps = tt

-- ---- questions about a block

asked_end : (ending : Ending) (command : Option Command) → asks_for_block command ≡ true
    → EndsAsked ending → MayEnd (status_of ending) command
asked_end endings.Done None asks ends = absurd (cc asks)
asked_end endings.Done (Some command) asks ends = refl
asked_end endings.Beyond command asks ends = asks
asked_end endings.Refused command asks ends = absurd ends
asked_end endings.Rejected command asks ends = absurd ends
asked_end endings.BadInput command asks ends = absurd ends
asked_end endings.NotALog command asks ends = absurd ends
asked_end endings.Damaged command asks ends = absurd ends

pub asked_ends : {E : Type 0} (found : Result Outcome E) (command : Option Command)
    → asks_for_block command ≡ true → IfOk found (λ outcome. EndsAsked outcome.ending) → IfOk found
    (λ outcome. MayEnd (status_of outcome.ending) command)
asked_ends (Ok outcome) command asks ends = asked_end outcome.ending command asks ends
asked_ends (Err e) command asks ends = tt
