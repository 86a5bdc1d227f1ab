-- The output of `pack`, by cases.
use Rattle.std.proofs.Common.{◌≡◌, ℕ, ◌+◌, ◌<◌, ◌≤◌, Bool, true, false, cond, ltb, List, [], length}
use Rattle.std.proofs.Common.{drop, Option, Some, None, Result, Ok, Err, sym, ap, ◌∙◌, subst, arith}
use Rattle.std.specs.Prelude.{codes, IfOk, IfSome}
use Rattle.std.proofs.lemmas.Bool.Decides.{nat_tests}
use Rattle.chain_pack.specs.Draft.{pack_fault, texts_of_draft}
use Rattle.chain_pack.specs.declared.error.PackError.{PackError}
use Rattle.cli_lines.specs.Outcome.{bad_input}
use Rattle.cli_lines.specs.Whole.{IsWholeInput}
use Rattle.cli_lines.specs.declared.whole.TheConstants.{MAX_WHOLE_INPUT_BYTES}
use Rattle.cli_lines.specs.declared.outcome.Outcome.{Outcome}
use Rattle.cli_output.specs.Blocks.{draft_cause, draft_outcome, TellsFault}
use Rattle.cli_output.specs.Output.{Output, output_of, long_output, pack_output}
use Rattle.cli_output.specs.Scanning.{GivesOutput}

by_length : (version : ℕ) (long : Bool) (input : List ℕ) → ltb MAX_WHOLE_INPUT_BYTES (length input)
    ≡ long
    → pack_output version input ≡ cond long (long_output input)
    (output_of (draft_outcome (texts_of_draft version input)) [])
by_length version long input is = ap
    (λ (b : Bool). cond b (long_output input)
    (output_of (draft_outcome (texts_of_draft version input)) [])) is

is_long : (input : List ℕ) → MAX_WHOLE_INPUT_BYTES < length input → ltb MAX_WHOLE_INPUT_BYTES
    (length input) ≡ true
is_long input long = grind (arith, nat_tests)

is_short : (input : List ℕ) → length input ≤ MAX_WHOLE_INPUT_BYTES → ltb MAX_WHOLE_INPUT_BYTES
    (length input) ≡ false
is_short input short = grind (arith, nat_tests)

long_here : (version : ℕ) (first left : Option (List ℕ)) (outcome : Outcome) → IfSome first
    (λ input. IsWholeInput None input left) → outcome ≡ bad_input (codes "long") → IfSome first
    (λ input. GivesOutput outcome left (pack_output version input))
long_here version None left outcome whole is = tt
long_here version (Some input) left outcome (long, rest) is =
    let output : pack_output version input ≡ long_output input = by_length version true input
    (is_long input long) in (
      output ∙ ap (λ (o : Outcome). output_of o (drop (MAX_WHOLE_INPUT_BYTES + 1) input)) (sym is)
          ∙ ap (λ (o : Output). output_of outcome o.left) (sym output),
      rest ∙ ap
          (λ (o : Output). Some o.left) (sym output),
    )

-- an input that is too long
pub long_packed : (version : ℕ) (first left found : Option (List ℕ)) (outcome : Outcome) → found
    ≡ None
    → IfSome first (λ input. IsWholeInput found input left) → outcome ≡ bad_input (codes "long")
    → IfSome first (λ input. GivesOutput outcome left (pack_output version input))
long_packed version first left found outcome none whole is = long_here version first left outcome
    (subst (λ (f : Option (List ℕ)). IfSome first
    (λ input. IsWholeInput f input left)) none whole) is

draft_here : (version : ℕ) (first left : Option (List ℕ)) (bytes : List ℕ) (outcome : Outcome)
    → IfSome first
    (λ input. IsWholeInput (Some bytes) input left) → outcome ≡ draft_outcome
    (texts_of_draft version bytes)
    → IfSome first (λ input. GivesOutput outcome left (pack_output version input))
draft_here version None left bytes outcome whole is = tt
draft_here version (Some input) left bytes outcome (same, short, rest) is =
    let output : pack_output version input ≡ output_of
    (draft_outcome (texts_of_draft version input)) [] = by_length version false input
    (is_short input short) in
    let outcome_is : outcome ≡ draft_outcome (texts_of_draft version input) = is ∙ ap
    (λ (draft : List ℕ). draft_outcome (texts_of_draft version draft)) same in (
      output ∙ ap (λ (o : Outcome). output_of o []) (sym outcome_is) ∙ ap
          (λ (o : Output). output_of outcome o.left) (sym output),
      rest ∙ ap (λ (o : Output). Some o.left)
          (sym output),
    )

-- a draft that was read whole
pub draft_packed : (version : ℕ) (first left found : Option (List ℕ)) (bytes : List ℕ)
    (outcome : Outcome)
    → found ≡ Some bytes → IfSome first (λ input. IsWholeInput found input left)
    → outcome ≡ draft_outcome (texts_of_draft version bytes)
    → IfSome first (λ input. GivesOutput outcome left (pack_output version input))
draft_packed version first left found bytes outcome some whole is = draft_here version first left bytes outcome (subst (λ (f : Option (List ℕ)). IfSome first (λ input. IsWholeInput f input left)) some whole) is

-- ---- a draft at fault

-- what is printed for it, by its cause as the text was made
pub told_fault : {E : Type 0} (result : Result Outcome E) (error fault : PackError) (text : List ℕ)
    → error ≡ fault → pack_fault fault ≡ Some fault → text ≡ draft_cause fault → IfOk result
    (λ outcome. outcome ≡ bad_input text)
    → IfOk result (TellsFault error)
told_fault (Err e) error fault text is own same told = tt
told_fault (Ok outcome) error fault text is own same told =
    (fault, ap pack_fault is ∙ own, told ∙ ap bad_input same)

by_fault : (fault : Option PackError) (told : PackError) (outcome : Outcome)
    (found : Result (List (List ℕ)) PackError) → fault ≡ Some told → IfSome fault
    (λ f. found ≡ Err f) → outcome ≡ bad_input (draft_cause told) → outcome ≡ draft_outcome found
by_fault None told outcome found is wanted same = absurd cc
by_fault (Some fault) told outcome found is wanted same =
    let one : fault ≡ told = cc in
    same ∙ ap (λ (f : PackError). bad_input (draft_cause f)) (sym one) ∙ ap draft_outcome
    (sym wanted)

-- it is the outcome of the draft whose fault the error reports
pub fault_wanted : {E : Type 0} (result : Result Outcome E) (error : PackError)
    (found : Result (List (List ℕ)) PackError) → IfSome (pack_fault error)
    (λ fault. found ≡ Err fault)
    → IfOk result (TellsFault error) → IfOk result (λ outcome. outcome ≡ draft_outcome found)
fault_wanted (Err e) error found is told = tt
fault_wanted (Ok outcome) error found is (fault, says, told) = by_fault
    (pack_fault error) fault outcome found says is told
