-- Keys, decimal numbers and joined texts are texts.
use Rattle.std.proofs.Common.{◌≡◌, ℕ, suc, ℤ, pos, negsuc, ◌+◌, ◌-◌, ◌^◌, ◌<◌, ◌≤◌, Bool, false, not, List, [], ◌∷◌, ◌++◌, length, get_or, None, refl, sym, ap, ◌∙◌, arith, inl, inr}
use Rattle.std.specs.Prelude.{position}
use Rattle.std.specs.Int.{w64}
use Rattle.std.specs.Int.RustNames.{FitsSigned}
use Rattle.std.specs.List.{position_or_len}
use Rattle.std.specs.Fmt.{decimal, signed_decimal}
use Rattle.std.proofs.lemmas.Bool.{le-ltb, lt-ltb, cases_lt}
use Rattle.std.proofs.lemmas.Bool.Decides.{nat_tests}
use Rattle.std.proofs.lemmas.Option.{none-some}
use Rattle.std.proofs.lemmas.List.{length-append, get_or_append_left, get_or-append_right}
use Rattle.std.proofs.lemmas.List.Sums.{position_or_len_is, fails_before_first}
use Rattle.std.proofs.lemmas.Str.Parse.{digit_at}
use Rattle.std.proofs.lemmas.Fmt.{decimal_is_IsNumeral, length-decimal-le}
use Rattle.lc_base.specs.declared.limits.TheConstants.{MAX_TEXT_BYTES}
use Rattle.lc_base.specs.KeyBytes.{IsKey, is_key_byte}
use Rattle.lc_base.specs.TextBytes.{IsText, is_text_byte}

-- ---- no byte is bad

none_passes : (p : ℕ → Bool) (xs : List ℕ) → position p xs ≡ None → (k : ℕ) → k < length xs → p (get_or xs k 0) ≡ false
none_passes p xs none k lt = elim (cases_lt (position_or_len p xs) (length xs)) [
  | inl inside ↦ absurd (none-some (position_or_len p xs) (sym (rw (lt-ltb (position_or_len p xs) (length xs) inside) at none)))
  | inr past ↦ fails_before_first p xs k 0 (omega (arith, lt, past))
]

pub none_found : (p : ℕ → Bool) (xs : List ℕ) → ((k : ℕ) → k < length xs → p (get_or xs k 0) ≡ false) → position p xs ≡ None
none_found p xs good =
    let whole : position_or_len p xs ≡ length xs = position_or_len_is p xs (length xs) 0 (omega arith) good (λ lt. absurd (omega (arith, lt))) in
    rw (whole, le-ltb (length xs) (length xs) (omega arith)) refl

bad : ℕ → Bool
bad byte = not (is_text_byte byte)

-- ---- keys

key_byte_is_good : (byte : ℕ) → not (is_key_byte byte) ≡ false → not (is_text_byte byte) ≡ false
key_byte_is_good byte good = grind (arith, nat_tests)

pub key_is_text : (key : List ℕ) → IsKey key → IsText key
key_is_text key is =
    record {
      short = omega (arith, is.short);
      good = none_found (λ byte. not (is_text_byte byte)) key (λ k lt. key_byte_is_good (get_or key k 0) (none_passes (λ byte. not (is_key_byte byte)) key is.good k lt));
    }

-- ---- joined texts

pub joined_is_text : (a b : List ℕ) → IsText a → IsText b → length a + length b ≤ MAX_TEXT_BYTES → IsText (a ++ b)
joined_is_text a b is_a is_b short =
    record {
      short = omega (arith, short, length-append a b);
      good = none_found (λ byte. not (is_text_byte byte)) (a ++ b) (λ k lt. elim (cases_lt k (length a)) [
        | inl first ↦ ap (λ (byte : ℕ). not (is_text_byte byte)) (get_or_append_left a b 0 k first) ∙ none_passes (λ byte. not (is_text_byte byte)) a is_a.good k first
        | inr second ↦ ap (λ (byte : ℕ). not (is_text_byte byte)) (get_or-append_right a b (length a) k 0 refl second) ∙ none_passes (λ byte. not (is_text_byte byte)) b is_b.good (k - length a) (omega (arith, lt, second, length-append a b))
      ]);
    }

-- ---- numbers

digit_is_good : (byte : ℕ) → 48 ≤ byte → byte ≤ 57 → not (is_text_byte byte) ≡ false
digit_is_good byte low high = grind (arith, nat_tests)

decimal_is_text : (n : ℕ) → n < 2 ^ 64 → IsText (decimal n)
decimal_is_text n small =
    let digits = (decimal_is_IsNumeral n small).0 in
    record {
      short = omega (arith, length-decimal-le 20 n (omega arith) (omega (arith, small)) small);
      good = none_found (λ byte. not (is_text_byte byte)) (decimal n) (λ k lt. let d = digit_at (decimal n) k digits.1 lt in digit_is_good (get_or (decimal n) k 0) d.0 d.1);
    }

minus_is_text : IsText (45 ∷ [])
minus_is_text = record { short = omega arith; good = refl }

pub number_is_text : (z : ℤ) → FitsSigned w64 z → IsText (signed_decimal z)
number_is_text (pos n) fits = decimal_is_text n (omega (arith, fits))
number_is_text (negsuc n) fits =
    let short : suc n < 10 ^ 19 = omega (arith, fits) in
    joined_is_text (45 ∷ []) (decimal (suc n)) minus_is_text (decimal_is_text (suc n) (omega (arith, fits))) (omega (arith, length-decimal-le 19 (suc n) (omega arith) short (omega (arith, fits))))
