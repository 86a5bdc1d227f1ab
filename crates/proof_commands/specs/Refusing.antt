-- The line that is printed for a proof that isn't accepted.
use Rattle.std.specs.Prelude.{ℕ, List, [], ◌∷◌, ◌++◌, codes}
use Rattle.proof_commands.specs.Lines.{reject_text}
use Rattle.proof_commands.specs.TraceLines.{trace_reject_text}
use Rattle.proof_commands.specs.RangeLines.{range_reject_text}
use Rattle.proof_commands.specs.declared.verification.Refused.{Refused}
use Rattle.proof_commands.specs.declared.verification.Refused.TheVariants as refusals

-- The words for the check that failed, by the kind of the proof's question.
abbrev pub refused_text : Refused → List ℕ
refused_text (refusals.Version reject) = reject_text reject
refused_text (refusals.Ancestors reject) = trace_reject_text reject
refused_text (refusals.Between reject) = range_reject_text reject

-- The line for a proof that isn't accepted, with its line end (0x0A).
abbrev pub rejected_line : Refused → List ℕ
rejected_line refused = codes "rejected " ++ refused_text refused ++ 10 ∷ []
