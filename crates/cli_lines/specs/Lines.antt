-- The lines that commands print, as bytes.
use Rattle.std.specs.Prelude.{ℕ, List, [], ◌∷◌, ◌++◌, length, map, codes, decimal, Option, Some, None}
use Rattle.std.specs.Fmt.{signed_decimal}
use Rattle.lc_base.specs.declared.value.Value.{Value}
use Rattle.lc_base.specs.declared.value.Value.TheVariants.{Int, Text, Gone}
use Rattle.lc_base.specs.declared.answer.Answer.{Answer}
use Rattle.lc_base.specs.declared.answer.Answer.TheVariants.{Nothing, Hist, Back, Fwd}
use Rattle.lc_base.specs.declared.row.Dep.{Dep}
use Rattle.lc_base.specs.declared.row.Version.{Version}
use Rattle.root_laws.specs.declared.trace.Trace.{Trace}
use Rattle.contract_parse.specs.declared.source.SyntaxKind.{SyntaxKind}
use Rattle.contract_parse.specs.declared.source.SyntaxKind.TheVariants as syntax
use Rattle.contract_check.specs.declared.fault.Fault.{Fault}
use Rattle.contract_check.specs.declared.fault.CheckKind.{CheckKind}
use Rattle.contract_check.specs.declared.fault.CheckKind.TheVariants as checks
use Rattle.hex.specs.Hex.{encode_lower}
use Rattle.block_codec.specs.declared.placement.Misplaced.{Misplaced}
use Rattle.block_codec.specs.declared.placement.Misplaced.TheVariants as misplaced
use Rattle.chain_input.specs.chain_replay.declared.refusal.Refusal.{Refusal}
use Rattle.chain_input.specs.chain_replay.declared.refusal.Refusal.TheVariants as refusals
use Rattle.chain_input.specs.declared.cause.Cause.{Cause}
use Rattle.chain_input.specs.declared.cause.Cause.TheVariants as causes

-- A line ends with the byte 0x0A.
abbrev pub line : List ℕ → List ℕ
line text = text ++ 10 ∷ []

-- A value, after the word for its kind; one that is gone is that word alone.
abbrev pub value_text : Value → List ℕ
value_text (Int number) = codes "int " ++ signed_decimal number
value_text (Text text) = codes "text " ++ text
value_text Gone = codes "gone"

-- A version, as others depend on it: its key and its block.
abbrev pub dep_line : Dep → List ℕ
dep_line dep = line (dep.key ++ codes " " ++ decimal dep.block)

-- A version of a key that is known: its block, the index of its transaction, and its value.
abbrev pub hist_line : ℕ → ℕ → Value → List ℕ
hist_line block tx value =
    line (codes "block " ++ decimal block ++ codes " tx " ++ decimal tx ++ codes " "
    ++ value_text value)

-- The same of a version.
abbrev pub version_line : Version → List ℕ
version_line version = hist_line version.block version.tx version.value

-- The lines of an answer: one, and for a list one more for each of its versions.
abbrev pub answer_lines : Answer → List (List ℕ)
answer_lines Nothing = line (codes "none") ∷ []
answer_lines (Hist block tx value) = hist_line block tx value ∷ []
answer_lines (Back block deps) = line (codes "block " ++ decimal block ++ codes " deps " ++ decimal (length deps)) ∷ map dep_line deps
answer_lines (Fwd block uses) = line (codes "block " ++ decimal block ++ codes " uses " ++ decimal (length uses)) ∷ map dep_line uses

-- The lines of a version with its ancestors: its block and their number, and one more for each of
-- them; `none` if there is no version.
abbrev pub trace_lines : Option Trace → List (List ℕ)
trace_lines None = line (codes "none") ∷ []
trace_lines (Some trace) =
    line (codes "block " ++ decimal trace.block ++ codes " ancestors " ++ decimal (length trace.ancestors))
    ∷ map dep_line trace.ancestors

-- The lines of versions of a key: their number, and one more for each of them.
abbrev pub range_lines : List Version → List (List ℕ)
range_lines versions =
    line (codes "versions " ++ decimal (length versions)) ∷ map version_line versions

-- The line for words that are no command.
abbrev pub usage_line : List ℕ
usage_line = line (codes "usage")

-- The line for a block past the head of the chain, or for a chain of no block.
abbrev pub beyond_line : Option ℕ → List ℕ
beyond_line None = line (codes "beyond empty")
beyond_line (Some head) = line (codes "beyond head " ++ decimal head)

-- The line of the root at a block.
abbrev pub root_line : ℕ → List ℕ → List ℕ
root_line number root = line (codes "root " ++ decimal number ++ codes " " ++ encode_lower root)

-- Why a block is neither held by a chain nor its next one, in words.
abbrev pub misplaced_text : Misplaced → List ℕ
misplaced_text (misplaced.Fork have) = codes "fork " ++ encode_lower have.0
misplaced_text misplaced.Full = codes "full"
misplaced_text (misplaced.Number want) = codes "number " ++ decimal want
misplaced_text (misplaced.Parent want) = codes "parent " ++ encode_lower want.0
misplaced_text (misplaced.Version want) = codes "version " ++ decimal want
misplaced_text (misplaced.Budget sum) = codes "budget " ++ decimal sum

-- Why a chain refuses bytes, in words.
abbrev pub refusal_text : Refusal → List ℕ
refusal_text (refusals.Malformed offset) = codes "malformed " ++ decimal offset
refusal_text (refusals.Placed why) = misplaced_text why

-- Why a frame is refused, in words.
abbrev pub cause_text : Cause → List ℕ
cause_text causes.Truncated = codes "truncated"
cause_text (causes.Length count) = codes "length " ++ decimal count
cause_text causes.Many = codes "many"
cause_text (causes.Block refusal) = refusal_text refusal

-- The line for a refused frame: its number, from 0, and the cause.
abbrev pub refused_line : ℕ → Cause → List ℕ
refused_line frame cause = line (codes "refused frame " ++ decimal frame ++ codes " " ++ cause_text cause)

-- ---- inputs that are not of their grammar

-- The line for an input that is not of its grammar, or too long.
abbrev pub bad_input_line : List ℕ → List ℕ
bad_input_line cause = line (codes "badinput " ++ cause)

-- ---- disks that hold no chain

-- The line for a disk that holds something other than a log.
abbrev pub not_a_log_line : List ℕ
not_a_log_line = line (codes "not a log")

-- The line for a log that is damaged: the gate at this offset has no record of the chain's next
-- block.
abbrev pub damaged_line : ℕ → List ℕ
damaged_line at = line (codes "damaged at " ++ decimal at)

-- ---- logs that are marked

-- The line for a log that was marked: the number of its blocks.
abbrev pub upgraded_line : ℕ → List ℕ
upgraded_line count = line (codes "upgraded " ++ decimal count)

-- The line for a log that was marked already.
abbrev pub already_upgraded_line : List ℕ
already_upgraded_line = line (codes "already upgraded")

-- ---- faults of contracts

-- The word for a fault of a source's syntax.
abbrev pub syntax_word : SyntaxKind → List ℕ
syntax_word syntax.Byte = codes "byte"
syntax_word syntax.Literal = codes "literal"
syntax_word syntax.Expected = codes "expected"
syntax_word syntax.End = codes "end"
syntax_word syntax.Deep = codes "deep"

-- The cause for a fault of the syntax: its offset, and its word.
abbrev pub syntax_cause : ℕ → SyntaxKind → List ℕ
syntax_cause at kind = codes "syntax " ++ decimal at ++ codes " " ++ syntax_word kind

-- The word for a fault of the names and kinds of a contract.
abbrev pub check_word : CheckKind → List ℕ
check_word checks.Unknown = codes "unknown"
check_word checks.Again = codes "again"
check_word checks.Count = codes "count"
check_word checks.Kind = codes "kind"

-- The cause for a fault of a name or a kind: its offset, and its word.
abbrev pub check_cause : Fault → List ℕ
check_cause fault = codes "check " ++ decimal fault.at ++ codes " " ++ check_word fault.kind
