-- The outcome for a block that a chain doesn't have.
use Rattle.std.specs.Prelude.{ℕ, ◌-◌, ◌==◌, nat_lt, if◌then◌else◌, Option, Some, None}
use Rattle.cli_lines.specs.declared.outcome.Outcome.{Outcome}
use Rattle.cli_output.specs.Output.{beyond_outcome}

-- The outcome for a block that a chain of this many blocks doesn't have; `None` if it has the block.
abbrev pub missing_outcome : ℕ → ℕ → Option Outcome
missing_outcome at count =
    if count == 0 then Some (beyond_outcome None)
    else (if nat_lt at count then None else Some (beyond_outcome (Some (count - 1))))
