-- The canonical text that `fmt` prints is printed again for that text.
use Rattle.std.proofs.Common.{◌≡◌, ℕ, Bool, true, false, cond, eqb, List, [], ◌∷◌, ◌++◌, Option}
use Rattle.std.proofs.Common.{Some, None, Ok, Err, refl, sym, ap, ◌∙◌, subst, map, append_assoc}
use Rattle.std.specs.List.{concat}
use Rattle.contract_tree.specs.Tree.{FunctionTree}
use Rattle.contract_parse.specs.Syntax.{Outcome as SourceOutcome, IsOutcome, ReadsAs}
use Rattle.contract_check.specs.Faults.{check_fault}
use Rattle.contract_check.specs.declared.fault.Fault.{Fault}
use Rattle.contract_check.proofs.StatementLaws.{well_kinded, no_check_fault}
use Rattle.contract_check.proofs.WithoutOffsets.{kinded_anywhere}
use Rattle.contract_print.specs.Canonical.{contract_text}
use Rattle.contract_print.proofs.RereadContracts.{reads_again}
use Rattle.contract_print.proofs.WithoutOffsets.{one_text}
use Rattle.cli_append.specs.cli_promises.Promises.{Line, plain}
use Rattle.cli_output.specs.Texts.{last_line, lines_after, lines_of}
use Rattle.cli_lines.specs.Outcome.{outcome_with}
use Rattle.cli_output.specs.Output.{output_of, fmt_outcome, source_outcome, told_bytes, FitsInput}
use Rattle.cli_output.specs.Output.{IsFmtOutput, Long, Source, FormatsAgain}
use Rattle.cli_lines.specs.declared.outcome.Ending.TheVariants as endings
use Rattle.cli_lines.specs.declared.status.Status.TheVariants as statuses

-- ---- the lines of a text, joined

last_joined : (begun : List ℕ) → concat (last_line begun) ≡ begun ++ []
last_joined [] = refl
last_joined (byte ∷ bytes) = refl

joined_by : (b : Bool) (begun bytes : List ℕ) (byte : ℕ) → concat (lines_after [] bytes) ≡ bytes
    → concat (lines_after (begun ++ byte ∷ []) bytes) ≡ (begun ++ byte ∷ []) ++ bytes
    → concat (cond b ((begun ++ byte ∷ []) ∷ lines_after [] bytes) (lines_after (begun ++ byte ∷ []) bytes)) ≡ begun ++ byte ∷ bytes
joined_by true begun bytes byte after on = ap (λ (rest : List ℕ). (begun ++ byte ∷ []) ++ rest) after ∙ append_assoc begun (byte ∷ []) bytes
joined_by false begun bytes byte after on = on ∙ append_assoc begun (byte ∷ []) bytes

lines_joined : (begun bytes : List ℕ) → concat (lines_after begun bytes) ≡ begun ++ bytes
lines_joined begun [] = last_joined begun
lines_joined begun (byte ∷ bytes) = joined_by (eqb byte 10) begun bytes byte (lines_joined [] bytes) (lines_joined (begun ++ byte ∷ []) bytes)

text_joined : (text : List ℕ) → concat (lines_of text) ≡ text
text_joined text = lines_joined [] text

-- the texts of lines that promise nothing are these
plain_texts : (lines : List (List ℕ)) → map (λ (line : Line). line.text) (map plain lines) ≡ lines
plain_texts [] = refl
plain_texts (line ∷ lines) = ap (λ (others : List (List ℕ)). line ∷ others) (plain_texts lines)

-- ---- the text of functions that are well kinded

told_again : (edition : ℕ) (input : List ℕ) (functions : List FunctionTree)
    → ReadsAs edition input functions
    → check_fault functions ≡ None → FitsInput (contract_text functions)
    → IsFmtOutput edition (contract_text functions) (output_of (outcome_with (lines_of (contract_text functions)) endings.Done) [])
told_again edition input functions reads good fits =
    let again = reads_again input functions reads in
    let none : check_fault again.0 ≡ None = no_check_fault again.0 ((kinded_anywhere functions again.0 again.2).0 (well_kinded functions good)) in
    let text : contract_text again.0 ≡ contract_text functions = one_text functions again.0 again.2 in
    let told : fmt_outcome again.0 (check_fault again.0) ≡ outcome_with (lines_of (contract_text functions)) endings.Done =
    ap (fmt_outcome again.0) none ∙ ap (λ (t : List ℕ). outcome_with (lines_of t) endings.Done) text in
    subst (λ o. IsFmtOutput edition (contract_text functions) (output_of o [])) told (Source fits (Ok again.0) again.1)

by_fault : (edition : ℕ) (input : List ℕ) (functions : List FunctionTree) (fault : Option Fault)
    → ReadsAs edition input functions → check_fault functions ≡ fault
    → (output_of (fmt_outcome functions fault) []).status ≡ statuses.Done
    → FitsInput (told_bytes (output_of (fmt_outcome functions fault) []))
    → IsFmtOutput edition (told_bytes (output_of (fmt_outcome functions fault) [])) (output_of (fmt_outcome functions fault) [])
by_fault edition input functions (Some fault) reads e done fits = absurd cc
by_fault edition input functions None reads e done fits =
    let lines : List (List ℕ) = lines_of (contract_text functions) in
    let text : told_bytes (output_of (outcome_with lines endings.Done) []) ≡ contract_text functions = ap concat (plain_texts lines) ∙ text_joined (contract_text functions) in
    subst (λ (t : List ℕ). IsFmtOutput edition t (output_of (outcome_with (lines_of (contract_text functions)) endings.Done) [])) (sym text) (told_again edition input functions reads e (subst FitsInput text fits))

by_outcome : (edition : ℕ) (input : List ℕ) (outcome : SourceOutcome)
    → IsOutcome edition input outcome
    → (output_of (source_outcome outcome) []).status ≡ statuses.Done
    → FitsInput (told_bytes (output_of (source_outcome outcome) []))
    → IsFmtOutput edition (told_bytes (output_of (source_outcome outcome) [])) (output_of (source_outcome outcome) [])
by_outcome edition input (Ok functions) reads done fits = by_fault edition input functions (check_fault functions) reads refl done fits
by_outcome edition input (Err fault) is done fits = absurd cc

pub formats_again : (edition : ℕ) (input : List ℕ) → FormatsAgain edition input
formats_again edition input _ (Long long) done fits = absurd cc
formats_again edition input _ (Source short outcome is) done fits = by_outcome edition input outcome is done fits
