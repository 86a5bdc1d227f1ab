-- The output of `fmt`, by cases.
use Rattle.std.proofs.Common.{◌≡◌, ℕ, ◌+◌, ◌≤◌, List, [], length, drop, Option, Some, None, sym}
use Rattle.std.proofs.Common.{subst}
use Rattle.std.specs.Prelude.{codes, IfSome}
use Rattle.contract_parse.specs.Syntax.{Outcome as SourceOutcome, IsOutcome}
use Rattle.cli_lines.specs.declared.whole.TheConstants.{MAX_WHOLE_INPUT_BYTES}
use Rattle.cli_lines.specs.declared.outcome.Outcome.{Outcome}
use Rattle.cli_lines.specs.Outcome.{bad_input}
use Rattle.cli_output.specs.Output.{IsFmtOutput, Long, Source, output_of, source_outcome}
use Rattle.cli_output.specs.Scanning.{IsFmtOutcome}
use Rattle.cli_lines.specs.Whole.{IsWholeInput}

-- the outcome of a source that was read whole
pub source_wanted : (edition : ℕ) (input : List ℕ) (found : SourceOutcome) (outcome : Outcome)
    → length input ≤ MAX_WHOLE_INPUT_BYTES → IsOutcome edition input found → outcome ≡ source_outcome found
    → IsFmtOutput edition input (output_of outcome [])
source_wanted edition input found outcome fits is told = subst (λ (o : Outcome). IsFmtOutput edition input (output_of o [])) (sym told) (Source fits found is)

long_here : (edition : ℕ) (first left : Option (List ℕ)) (outcome : Outcome) → IfSome first
    (λ input. IsWholeInput None input left) → outcome ≡ bad_input (codes "long") → IfSome first
    (λ input. IsFmtOutcome edition outcome left input)
long_here edition None left outcome whole is = tt
long_here edition (Some input) left outcome (long, rest) is = (drop (MAX_WHOLE_INPUT_BYTES + 1) input, rest, subst (λ (o : Outcome). IsFmtOutput edition input (output_of o (drop (MAX_WHOLE_INPUT_BYTES + 1) input))) (sym is) (Long long))

pub long_wanted : (edition : ℕ) (first left found : Option (List ℕ)) (outcome : Outcome) → found ≡ None
    → IfSome first (λ input. IsWholeInput found input left) → outcome ≡ bad_input (codes "long")
    → IfSome first (λ input. IsFmtOutcome edition outcome left input)
long_wanted edition first left found outcome none whole is = long_here edition first left outcome (subst (λ (f : Option (List ℕ)). IfSome first (λ input. IsWholeInput f input left)) none whole) is
