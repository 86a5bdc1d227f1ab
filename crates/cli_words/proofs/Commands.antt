-- Single words have one spelling: what is parsed from a text spells the text.
use Rattle.std.proofs.Common.{◌≡◌, ◌≢◌, ℕ, ◌<◌, ◌≤◌, ◌^◌, true, false, List, [], ◌∷◌, length, get_or, Some, None, Result, Ok, Err, sym, ap, ◌∙◌, arith, subst, inl, inr}
use Rattle.std.specs.Prelude.{decimal}
use Rattle.std.specs.Result.{result_ok}
use Rattle.std.specs.Str.Parse.{AllDigits, IsNumeral, ParsesUnsigned, without_leading_plus, digits_value}
use Rattle.std.proofs.lemmas.Bool.{cases_lt}
use Rattle.std.proofs.lemmas.Bool.Decides.{nat_tests}
use Rattle.std.proofs.lemmas.Str.Parse.{IsNumeralModel, numerals_by_value, tells_digits, without_leading_plus_none, digit_at}
use Rattle.std.proofs.lemmas.Fmt.{parse-decimal, decimal_injective, decimal_is_IsNumeral, decimal-digits_value, first_decimal, decimal_digit}
use Rattle.hex.specs.Hex.{decode_sized, encode_lower}
use Rattle.hex.specs.declared.error.FromHexError.{FromHexError}
use Rattle.hex.proofs.HexLemmas.{decode_sized-encode_lower}
use Rattle.cli_words.specs.Words.{starts_as_number, IsNumberOf, IsCount, IsCountOf, IsDigestOf}

own : IsNumeralModel (AllDigits 10) (digits_value 10)
own = numerals_by_value (AllDigits 10) tells_digits

starts_by_first : (text : List ℕ) → 0 < length text → 48 < get_or text 0 0 → get_or text 0 0 ≤ 57 → starts_as_number text ≡ true
starts_by_first [] some low high = absurd (omega arith)
starts_by_first (first ∷ others) some low high = grind (arith, nat_tests)

-- each number is spelled in a form that starts as a number
pub decimal_starts : (n : ℕ) → n < 2 ^ 64 → starts_as_number (decimal n) ≡ true
decimal_starts n fits =
    let numeral = decimal_is_IsNumeral n fits in
    elim (cases_lt 0 n) [
      | inl above ↦ starts_by_first (decimal n) numeral.0.0 (first_decimal n above fits) (digit_at (decimal n) 0 numeral.0.1 numeral.0.0).1
      | inr none ↦ let zero_is : n ≡ 0 = omega arith in ap (λ (k : ℕ). starts_as_number (decimal k)) zero_is ∙ ap starts_as_number (decimal_digit 0 (omega arith))
    ]

-- what starts as a number has no sign, and no leading zero
record IsUnsigned (text : List ℕ) : Type 0 where
  no_plus : get_or text 0 0 ≢ 43
  one_zero : get_or text 0 0 ≡ 48 → length text ≡ 1

unsigned : (text : List ℕ) → starts_as_number text ≡ true → IsUnsigned text
unsigned [] starts = absurd cc
unsigned (first ∷ others) starts = record { no_plus = λ plus. grind (arith, nat_tests); one_zero = λ zero. grind (arith, nat_tests) }

-- what `parse` reads of a text that starts as a number
pub number_is : {E : Type 0} (text : List ℕ) (r : Result ℕ E) → ParsesUnsigned 32 10 text r → starts_as_number text ≡ true → IsNumberOf text (result_ok r)
number_is text (Ok n) parsed starts =
    let form = unsigned text starts in
    let same : without_leading_plus text ≡ text = without_leading_plus_none text form.no_plus in
    let value_is : n ≡ digits_value 10 text = parsed.1 ∙ ap (digits_value 10) same in
    let numeral : IsNumeral 10 text = subst (IsNumeral 10) same parsed.0.0 in
    let small : digits_value 10 text < 2 ^ 32 = subst (λ (t : List ℕ). digits_value 10 t < 2 ^ 32) same parsed.0.1 in
    (omega (arith, value_is, small), sym (decimal-digits_value own text numeral.1 numeral.0 form.one_zero (omega (arith, small))) ∙ ap decimal (sym value_is))
number_is text (Err e) parsed starts = λ n fits written. absurd (cc (parse-decimal 32 n text (Err e) fits (omega (arith, fits)) written parsed))

-- a text that does not start as a number spells none
pub no_number : (text : List ℕ) → starts_as_number text ≡ false → IsNumberOf text None
no_number text starts = λ n fits written. let starts_is = ap starts_as_number written ∙ decimal_starts n (omega (arith, fits)) in absurd cc

-- a text spells one number only, so it spells no count if its number is none
pub not_counted : (text : List ℕ) (number : ℕ) → IsNumberOf text (Some number) → (IsCount number → ⊥) → IsCountOf text None
not_counted text number (fits, is) not = λ blocks counted written.
    not (subst IsCount (decimal_injective blocks number (omega (arith, counted.1)) (omega (arith, fits)) (sym written ∙ is)) counted)

-- ---- a digest in hex

pub no_digest : (text : List ℕ) (error : FromHexError) → decode_sized text 32 ≡ Err error → IsDigestOf text None
no_digest text error failed = λ digest is written.
    let read : decode_sized text 32 ≡ Ok digest.0 = ap (λ (t : List ℕ). decode_sized t 32) written ∙ decode_sized-encode_lower digest.0 32 is.length_is is.bytes in
    absurd (cc (sym failed ∙ read))

-- a text that is not the spelling of the digest that it decodes to
pub other_text : (text bytes : List ℕ) → decode_sized text 32 ≡ Ok bytes → (text ≡ encode_lower bytes → ⊥) → IsDigestOf text None
other_text text bytes read not = λ digest is written.
    let again : decode_sized text 32 ≡ Ok digest.0 = ap (λ (t : List ℕ). decode_sized t 32) written ∙ decode_sized-encode_lower digest.0 32 is.length_is is.bytes in
    let same : bytes ≡ digest.0 = cc (sym read ∙ again) in
    not (written ∙ ap encode_lower (sym same))
