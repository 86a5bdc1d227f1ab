-- The lines of a follower, as bytes.
use Rattle.std.specs.Prelude.{ℕ, List, ◌++◌, codes, decimal}
use Rattle.cli_lines.specs.Lines.{line, refusal_text}
use Rattle.follower_steps.specs.declared.cause.Cause.{Cause}
use Rattle.follower_steps.specs.declared.cause.Cause.TheVariants as causes

-- The line of a block that waits: its number.
abbrev pub kept_line : ℕ → List ℕ
kept_line number = line (codes "kept " ++ decimal number)

-- Why a block is dropped, in words.
abbrev pub drop_text : Cause → List ℕ
drop_text (causes.Refused refusal) = refusal_text refusal
drop_text (causes.Far held) = codes "far " ++ decimal held
drop_text causes.Taken = codes "taken"

-- The line of a block that is dropped: the index of its frame, from 0, and the cause.
abbrev pub dropped_line : ℕ → Cause → List ℕ
dropped_line index cause = line (codes "dropped " ++ decimal index ++ codes " " ++ drop_text cause)

-- The last line: how many blocks the chain has, and how many wait.
abbrev pub follow_line : ℕ → ℕ → List ℕ
follow_line blocks waiting =
    line (codes "follow blocks " ++ decimal blocks ++ codes " waiting " ++ decimal waiting)
