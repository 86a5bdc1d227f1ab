-- What was printed for a command, and what its function returned.
use Rattle.std.specs.Prelude.{◌≡◌, ℕ, List, [], ◌∷◌, map, Option, Result, Ok, Err, IfOk, IsErrOf}
use Rattle.std.specs.Prelude.{is_ok}
use Rattle.lc_io.specs.Disk.{DiskState}
use Rattle.lc_io.specs.Outside.{Tell}
use Rattle.block_log.specs.Standing.{NextBlock}
use Rattle.lc_base.specs.declared.host_error.HostError.{HostError}
use Rattle.lc_base.specs.declared.host_error.HostError.TheVariants as reads
use Rattle.cli_promises.specs.recovery.declared.errors.StartError.{StartError}
use Rattle.cli_promises.specs.recovery.declared.errors.StartError.TheVariants as starts
use Rattle.cli_promises.specs.Promises.{plain, Telling}
use Rattle.cli_promises.specs.Appending.{fold_end}
use Rattle.cli_promises.specs.declared.ending.RunEnd.{RunEnd}
use Rattle.cli_promises.specs.declared.ending.RunStop.{RunStop}
use Rattle.cli_promises.specs.cli_lines.Lines.{not_a_log_line, damaged_line}
use Rattle.cli_promises.specs.cli_lines.Outcome.{status_of, outcome_with}
use Rattle.cli_promises.specs.cli_lines.declared.outcome.Outcome.{Outcome}
use Rattle.cli_promises.specs.cli_lines.declared.outcome.Ending.{Ending}
use Rattle.cli_promises.specs.cli_lines.declared.outcome.Ending.TheVariants as endings
use Rattle.cli_promises.specs.cli_lines.declared.status.Status.{Status}
use Rattle.cli_promises.specs.cli_lines.declared.status.Status.TheVariants as statuses
use Rattle.cli_output.specs.Output.{fold_ending}
use Rattle.cli_output.specs.declared.stop.OutcomeStop.{OutcomeStop}
use Rattle.cli_output.specs.declared.stop.OutcomeStop.TheVariants as outcomes
use Rattle.cli_promises.specs.declared.ending.RunStop.TheVariants as stops

-- ---- results

-- The exit status of a stop.
abbrev pub status_of_stop : RunStop → Status
status_of_stop stops.Unreadable = statuses.Unreadable
status_of_stop stops.Untold = statuses.Untold
status_of_stop stops.DiskFault = statuses.DiskFault
status_of_stop stops.ScratchFault = statuses.ScratchFault
status_of_stop stops.Memory = statuses.Memory

-- The exit status of a command's result.
abbrev pub status_of_result : Result Ending RunStop → Status
status_of_result (Ok ending) = status_of ending
status_of_result (Err stop) = status_of_stop stop

-- The exit status for words that are no command.
abbrev pub status_of_usage : {T : Type 0} → Result T RunStop → Status
status_of_usage (Ok told) = statuses.Usage
status_of_usage (Err stop) = status_of_stop stop

-- How the commands `append` and `follow` end, by the result of taking all frames.
abbrev pub run_answer : Result RunEnd RunStop → Result Ending RunStop
run_answer (Ok end) = Ok (fold_ending (fold_end end))
run_answer (Err stop) = Err stop

-- How the command `upgrade` ends, by the result of marking the log.
abbrev pub upgrade_answer : {T : Type 0} → Result T RunStop → Result Ending RunStop
upgrade_answer (Ok done) = Ok endings.Done
upgrade_answer (Err stop) = Err stop

-- The stop for a failure of a source.
abbrev pub stop_of_source : HostError → OutcomeStop
stop_of_source reads.Fault = outcomes.Unreadable
stop_of_source reads.Memory = outcomes.Memory

-- Why a command without an outcome stopped.
abbrev pub stop_of_outcome : OutcomeStop → RunStop
stop_of_outcome outcomes.Unreadable = stops.Unreadable
stop_of_outcome outcomes.DiskFault = stops.DiskFault
stop_of_outcome outcomes.ScratchFault = stops.ScratchFault
stop_of_outcome outcomes.Memory = stops.Memory

-- What only prints is stopped by no source, no disk and no scratch device.
pub record OnlyTells {T : Type 0} (result : Result T RunStop) : Type 0 where
  pub reads : IsErrOf result stops.Unreadable → ⊥
  pub writes : IsErrOf result stops.DiskFault → ⊥
  pub keeps : IsErrOf result stops.ScratchFault → ⊥

-- What only reads its input is stopped by no disk and no scratch device.
pub record OnlyReads (found : Result Outcome OutcomeStop) : Type 0 where
  pub disk : IsErrOf found outcomes.DiskFault → ⊥
  pub scratch : IsErrOf found outcomes.ScratchFault → ⊥

-- ---- outcomes

-- All pieces of an outcome were printed, and its ending is returned; or a prefix of them was
-- printed.
pub record Says {D : Type 0} (next : NextBlock) (now : D → ℕ) (disk : D → ℕ → Option DiskState) (told : D → Option (List Tell)) (old new : D) (outcome : Outcome) (result : Result Ending RunStop) : Type 0 where
  pub lines : Telling next now disk told old new (map plain outcome.pieces) (is_ok result)
  pub ending : IfOk result (λ ending. ending ≡ outcome.ending)

-- A command stopped for this reason before it printed anything.
pub record StopsSilent {D : Type 0} (told : D → Option (List Tell)) (old new : D) (stop : RunStop) (result : Result Ending RunStop) : Type 0 where
  pub stop_is : result ≡ Err stop
  pub silent : told new ≡ told old

-- What is printed of what a command found: its outcome, or nothing if it has none.
abbrev pub Tells : {D : Type 0} → NextBlock → (D → ℕ) → (D → ℕ → Option DiskState)
    → (D → Option (List Tell)) → D → D → Result Outcome OutcomeStop → Result Ending RunStop → Type 0
Tells next now disk told old new (Ok outcome) result =
    Says next now disk told old new outcome result
Tells next now disk told old new (Err stop) result =
    StopsSilent told old new (stop_of_outcome stop) result

-- The exit status of what a command found, once that is printed.
abbrev pub status_of_found : Result Outcome OutcomeStop → Status
status_of_found (Ok outcome) = status_of outcome.ending
status_of_found (Err stop) = status_of_stop (stop_of_outcome stop)

-- What is found where nothing can be started.
abbrev pub start_outcome : StartError → Result Outcome OutcomeStop
start_outcome starts.NotALog = Ok (outcome_with (not_a_log_line ∷ []) endings.NotALog)
start_outcome (starts.Damaged at) = Ok (outcome_with (damaged_line at ∷ []) endings.Damaged)
start_outcome starts.DiskFault = Err outcomes.DiskFault
start_outcome starts.ScratchFault = Err outcomes.ScratchFault
start_outcome starts.Memory = Err outcomes.Memory
