-- A line is the same however its text is grouped.
use Rattle.std.proofs.Common.{◌≡◌, ℕ, List, Result, subst}
use Rattle.std.specs.Prelude.{IfOk}
use Rattle.cli_lines.specs.Lines.{line}

-- a line of one text is the line of an equal text
pub line_of : {E : Type 0} (result : Result (List ℕ) E) (text wanted : List ℕ) → text ≡ wanted → IfOk result (λ bytes. bytes ≡ line text) → IfOk result (λ bytes. bytes ≡ line wanted)
line_of result text wanted same is_line = subst (λ (t : List ℕ). IfOk result (λ bytes. bytes ≡ line t)) same is_line
