-- What a command prints, and how it ends, if nothing fails.
use Rattle.std.specs.Prelude.{ℕ, List, [], ◌∷◌}
use Rattle.cli_lines.specs.Lines.{bad_input_line}
use Rattle.cli_lines.specs.declared.outcome.Outcome.{Outcome}
use Rattle.cli_lines.specs.declared.outcome.Ending.{Ending}
use Rattle.cli_lines.specs.declared.outcome.Ending.TheVariants as endings
use Rattle.cli_lines.specs.declared.status.Status.{Status}
use Rattle.cli_lines.specs.declared.status.Status.TheVariants as statuses

-- The exit status of an ending.
abbrev pub status_of : Ending → Status
status_of endings.Done = statuses.Done
status_of endings.Refused = statuses.Refused
status_of endings.Beyond = statuses.Beyond
status_of endings.Rejected = statuses.Rejected
status_of endings.BadInput = statuses.BadInput
status_of endings.NotALog = statuses.NotALog
status_of endings.Damaged = statuses.Damaged

-- The outcome of these pieces and this ending.
abbrev pub outcome_with : List (List ℕ) → Ending → Outcome
outcome_with pieces ending = record { pieces = pieces; ending = ending }

-- The outcome for an input that is not of its grammar, or too long.
abbrev pub bad_input : List ℕ → Outcome
bad_input cause = outcome_with (bad_input_line cause ∷ []) endings.BadInput
