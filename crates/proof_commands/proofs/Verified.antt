-- For each input there is exactly one verification, and the functions return it.
use Rattle.std.proofs.Common.{◌≡◌, ◌∙◌, ℕ, ◌+◌, ◌%◌, ◌<◌, List, length, take, slice_index, Result}
use Rattle.std.proofs.Common.{Ok, Err, IfOk, inl, inr, refl, sym, ap, subst, true, arith}
use Rattle.std.specs.List.{AllPass}
use Rattle.std.proofs.lemmas.Bool.{cases_eq, cases_lt}
use Rattle.std.proofs.lemmas.List.{get_or-take, length-take-le}
use Rattle.hex.specs.Hex.{decode_of, is_hex_digit}
use Rattle.hex.specs.declared.error.FromHexError.{FromHexError}
use Rattle.hex.specs.declared.error.FromHexError.TheVariants.{InvalidHexCharacter, OddLength}
use Rattle.hex.proofs.HexLemmas.{decode_of-odd, decode_of-ok, decode_of-err}
use Rattle.cli_words.specs.declared.question.Question.{Question}
use Rattle.proof_commands.specs.declared.verification.Shown.{Shown}
use Rattle.proof_commands.specs.declared.verification.Refused.{Refused}
use Rattle.proof_commands.specs.declared.verification.Verification.{Verification}
use Rattle.proof_commands.specs.declared.verification.Verification.TheVariants.{BadHex}
use Rattle.proof_commands.specs.Verifying.{hex_text, hex_fault, bytes_or_fault, of_decoded}
use Rattle.proof_commands.specs.Verifying.{of_verdict, verdict_of, verification, IsFirstNoDigit}
use Rattle.proof_commands.specs.Verifying.{IsVerification, OddDigits, NoDigit, Decoded}
use Rattle.proof_commands.proofs.Read.{is_verdict, only_verdict}

-- ---- the first byte that isn't a hex digit

digit_before : (text : List ℕ) (at past : ℕ) → at < past → past < length text → AllPass is_hex_digit (take past text) → is_hex_digit (slice_index text at) ≡ true
digit_before text at past low within before =
    let count : length (take past text) ≡ past = length-take-le past text (omega (arith, within)) in
    subst (λ (byte : ℕ). is_hex_digit byte ≡ true) (get_or-take past text at 0 low) (before at 0 (omega (arith, low, count)))

none_before : (text : List ℕ) (a b : ℕ) → IsFirstNoDigit text a → IsFirstNoDigit text b → a < b → ⊥
none_before text a b is_a is_b low = let digit = digit_before text a b low is_b.within is_b.before in let no = is_a.no_digit in cc

one_first : (text : List ℕ) (a b : ℕ) → IsFirstNoDigit text a → IsFirstNoDigit text b → a ≡ b
one_first text a b is_a is_b =
    elim (cases_lt a b) [
      | inl low ↦ absurd (none_before text a b is_a is_b low)
      | inr past ↦ elim (cases_lt b a) [
        | inl low ↦ absurd (none_before text b a is_b is_a low)
        | inr same ↦ omega (arith, past, same)
      ]
    ]

-- A text of even length that doesn't decode has a first byte that isn't a hex digit.
found_first : (text : List ℕ) (error : FromHexError) → decode_of text ≡ Err error → length text % 2 ≡ 0 → (at : ℕ) × IsFirstNoDigit text at × (error ≡ InvalidHexCharacter (slice_index text at) at)
found_first text error decoded even =
    elim (decode_of-err text error decoded) [
      | inl odd ↦ absurd (let one = odd.0 in omega (arith, even, one))
      | inr bad ↦
          let at : ℕ = bad.0 in
          let same : 0 + at ≡ at = omega arith in
          (at, record { even = even; within = bad.2; no_digit = bad.3; before = bad.4 }, bad.1 ∙ ap (InvalidHexCharacter (slice_index text at)) same)
    ]

abbrev refused : FromHexError → Result (List ℕ) FromHexError
refused error = Err error

first_decoded : (text : List ℕ) (at : ℕ) → IsFirstNoDigit text at → (r : Result (List ℕ) FromHexError) → decode_of text ≡ r → r ≡ Err (InvalidHexCharacter (slice_index text at) at)
first_decoded text at is (Ok bytes) decoded =
    let digit : is_hex_digit (slice_index text at) ≡ true = (decode_of-ok text bytes decoded).1 at 0 is.within in
    let no = is.no_digit in
    absurd cc
first_decoded text at is (Err error) decoded =
    let first = found_first text error decoded is.even in
    let same : first.0 ≡ at = one_first text first.0 at first.1 is in
    ap refused first.2 ∙ ap (λ (n : ℕ). refused (InvalidHexCharacter (slice_index text n) n)) same

module _ (root : List ℕ) (question : Question) (input : List ℕ) where
  -- ---- what the functions return is a verification

  by_digit : (error : FromHexError) → decode_of (hex_text input) ≡ Err error
      → length (hex_text input) % 2 ≡ 0
      → IsVerification root question input (BadHex (hex_fault error))
  by_digit error decoded even =
      let first = found_first (hex_text input) error decoded even in
      subst (λ (e : FromHexError). IsVerification root question input (BadHex (hex_fault e)))
      (sym first.2) (NoDigit first.0 first.1)

  by_fault : (error : FromHexError) → decode_of (hex_text input) ≡ Err error
      → IsVerification root question input (BadHex (hex_fault error))
  by_fault error decoded =
      elim (cases_eq (length (hex_text input) % 2) 1) [
        | inl odd ↦
            let fault : error ≡ OddLength = cc (sym (decode_of-odd (hex_text input) odd) ∙ decoded)
            in
            subst (λ (e : FromHexError). IsVerification root question input (BadHex (hex_fault e)))
            (sym fault) (OddDigits odd)
        | inr even ↦ by_digit error decoded (omega arith)
      ]

  by_decoding : (r : Result (List ℕ) FromHexError) → decode_of (hex_text input) ≡ r
      → IsVerification root question input (of_decoded root question (bytes_or_fault r))
  by_decoding (Ok bytes) decoded = Decoded bytes decoded (verdict_of root question bytes)
      (is_verdict root bytes (decode_of-ok (hex_text input) bytes decoded).3 question)
  by_decoding (Err error) decoded = by_fault error decoded

  pub is_verification : IsVerification root question input (verification root question input)
  is_verification = by_decoding (decode_of (hex_text input)) refl

  -- ---- and no other is one

  abbrev after : Result (List ℕ) FromHexError → Verification
  after r = of_decoded root question (bytes_or_fault r)

  only_verification : (found : Verification) → IsVerification root question input found
      → found ≡ verification root question input
  only_verification _ (OddDigits odd) = sym (ap after (decode_of-odd (hex_text input) odd))
  only_verification _ (NoDigit at is) =
      sym (ap after (first_decoded (hex_text input) at is (decode_of (hex_text input)) refl))
  only_verification _ (Decoded bytes decoded found is) =
      let fits = (decode_of-ok (hex_text input) bytes decoded).3 in
      ap (λ (r : Result Shown Refused). of_verdict r) (only_verdict root bytes fits question found is)
      ∙ sym (ap after decoded)

  pub one_verification : (a b : Verification) → IsVerification root question input a
      → IsVerification root question input b → a ≡ b
  one_verification a b is_a is_b = only_verification a is_a ∙ sym (only_verification b is_b)

  pub by_function : {E : Type 0} (result : Result Verification E)
      → IfOk result (λ found. found ≡ verification root question input)
      → IfOk result (IsVerification root question input)
  by_function (Ok found) is = subst (IsVerification root question input) (sym is) is_verification
  by_function (Err e) is = tt
