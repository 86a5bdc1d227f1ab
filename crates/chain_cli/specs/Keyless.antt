-- How a run ends for which no random keys could be read.
use Rattle.std.specs.Prelude.{◌≡◌, ◌⊎◌, Option, Some, None}
use Rattle.cli_words.specs.declared.words.Command.{Command}
use Rattle.cli_lines.specs.declared.status.Status.{Status}
use Rattle.cli_lines.specs.declared.status.Status.TheVariants as statuses
use Rattle.cli_output.specs.Running.{MayEnd}

-- A command ends as after a read that failed, or for want of memory. Words that are no command end
-- the run as they always do.
abbrev pub MayEndKeyless : Status → Option Command → Type 0
MayEndKeyless status None = MayEnd status None
MayEndKeyless status (Some command) = (status ≡ statuses.Unreadable) ⊎ (status ≡ statuses.Memory)
