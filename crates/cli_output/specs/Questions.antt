-- What the three kinds of question are about: what is shown for each, up to which block, and which
-- proof of it is made.
use Rattle.std.specs.Prelude.{ℕ, ◌≤◌, List}
use Rattle.std.specs.List.{concat}
use Rattle.lc_base.specs.History.{scan}
use Rattle.lc_base.specs.declared.answer.Query.{Query}
use Rattle.lc_base.specs.declared.digest.Digest.{Digest}
use Rattle.lc_base.specs.declared.row.Row.{Row}
use Rattle.root_laws.specs.Ancestors.{trace_at}
use Rattle.root_laws.specs.Ranges.{between}
use Rattle.proof_codec.specs.Spelling.{proof_fields}
use Rattle.proof_checks.specs.Making.{made_proof}
use Rattle.proof_checks.specs.TraceSpelling.{trace_fields}
use Rattle.proof_checks.specs.TraceMaking.{made_trace}
use Rattle.proof_checks.specs.RangeSpelling.{range_fields}
use Rattle.proof_checks.specs.RangeMaking.{made_range}
use Rattle.proof_commands.specs.declared.verification.Shown.{Shown}
use Rattle.proof_commands.specs.declared.verification.Shown.TheVariants as shows
use Rattle.cli_words.specs.declared.question.Question.{Question}
use Rattle.cli_words.specs.declared.question.Question.TheVariants.{Version, Ancestors, Between}
use Rattle.cli_promises.specs.cli_lines.Lines.{answer_lines, trace_lines, range_lines}

-- What is shown for a question over the rows of a history: an answer; a version with its ancestors,
-- if there is one; or versions.
abbrev pub shown_in : List Row → Question → Shown
shown_in rows (Version query) = shows.Answer (scan rows query)
shown_in rows (Ancestors key at) = shows.Ancestors (trace_at rows key at)
shown_in rows (Between key from to) = shows.Versions (between rows key from to)

-- The last block that a question is about.
abbrev pub last_block : Question → ℕ
last_block (Version query) = query.at
last_block (Ancestors key at) = at
last_block (Between key from to) = to

-- The blocks of a question are in order.
abbrev pub IsInOrder : Question → Type 0
IsInOrder (Version query) = Unit {0}
IsInOrder (Ancestors key at) = Unit {0}
IsInOrder (Between key from to) = from ≤ to

-- The lines of what is shown.
abbrev pub shown_lines : Shown → List (List ℕ)
shown_lines (shows.Answer answer) = answer_lines answer
shown_lines (shows.Ancestors trace) = trace_lines trace
shown_lines (shows.Versions versions) = range_lines versions

-- The bytes of the proof that is made over a ledger, for one who has the root at a block.
abbrev pub made_bytes : List Row → List Digest → ℕ → Question → List ℕ
made_bytes rows digests root_at (Version query) =
    concat (proof_fields (made_proof rows digests root_at query))
made_bytes rows digests root_at (Ancestors key at) =
    concat (trace_fields (made_trace rows digests root_at key at))
made_bytes rows digests root_at (Between key from to) =
    concat (range_fields (made_range rows digests root_at key from to))
