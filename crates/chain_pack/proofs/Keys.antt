-- The drawn keys are keys.
use Rattle.std.proofs.Common.{◌≡◌, ℕ, zero, suc, ◌^◌, ◌<◌, ◌≤◌, Bool, false, not, cond, eqb, ltb, List, ◌∷◌, length, get_or, Ok, Err, refl, ap, ◌∙◌, arith}
use Rattle.std.specs.Fmt.{decimal}
use Rattle.std.proofs.lemmas.Bool.{le-ltb, ne_eqb}
use Rattle.std.proofs.lemmas.Bool.Decides.{nat_tests}
use Rattle.std.proofs.lemmas.Str.Parse.{digit_at}
use Rattle.std.proofs.lemmas.Fmt.{decimal_is_IsNumeral, length-decimal-le}
use Rattle.lc_base.specs.declared.name_limits.TheConstants.{MAX_KEY_BYTES}
use Rattle.lc_base.specs.KeyBytes.{IsKey, is_key_byte, bad_key_byte}
use Rattle.lc_base.specs.Key.{key_of, all_good}
use Rattle.lc_base.specs.declared.key.KeyError.TheVariants.{Empty, Long, Byte}
use Rattle.lc_base.proofs.TextBytes.{none_found}
use Rattle.chain_pack.specs.Draws.{raw_key}

-- `key_of` accepts what is a key
pub key_is_taken : (bytes : List ℕ) → IsKey bytes → key_of bytes ≡ Ok bytes
key_is_taken bytes is =
    let some : eqb (length bytes) 0 ≡ false = ne_eqb (length bytes) 0 (omega (arith, is.some)) in
    let short : ltb MAX_KEY_BYTES (length bytes) ≡ false = le-ltb MAX_KEY_BYTES (length bytes) is.short in
    ap (λ (b : Bool). cond b (Err Empty) (cond (ltb MAX_KEY_BYTES (length bytes)) (Err Long) (all_good Byte bytes (bad_key_byte bytes)))) some
    ∙ ap (λ (b : Bool). cond b (Err Long) (all_good Byte bytes (bad_key_byte bytes))) short
    ∙ ap (all_good Byte bytes) is.good

digit_is_good : (byte : ℕ) → 48 ≤ byte → byte ≤ 57 → not (is_key_byte byte) ≡ false
digit_is_good byte low high = grind (arith, nat_tests)

-- a good byte before good bytes
one_more : (p : ℕ → Bool) (x : ℕ) (xs : List ℕ) → p x ≡ false → ((k : ℕ) → k < length xs → p (get_or xs k 0) ≡ false) → (k : ℕ) → k < length (x ∷ xs) → p (get_or (x ∷ xs) k 0) ≡ false
one_more p x xs good others zero lt = good
one_more p x xs good others (suc k) lt = others k (omega (arith, lt))

pub raw_key_is_key : (n : ℕ) → n < 2 ^ 32 → IsKey (raw_key n)
raw_key_is_key n small =
    let fits : n < 2 ^ 64 = omega (arith, small) in
    let digits = (decimal_is_IsNumeral n fits).0 in
    let p : ℕ → Bool = λ byte. not (is_key_byte byte) in
    let good = λ (k : ℕ) (lt : k < length (decimal n)). let d = digit_at (decimal n) k digits.1 lt in digit_is_good (get_or (decimal n) k 0) d.0 d.1 in
    let text : List ℕ = decimal n in
    let tail1 : List ℕ = 47 ∷ text in
    let tail2 : List ℕ = 119 ∷ tail1 in
    let tail3 : List ℕ = 97 ∷ tail2 in
    let all = one_more p 114 tail3 refl (one_more p 97 tail2 refl (one_more p 119 tail1 refl (one_more p 47 text refl good))) in
    record {
      some = omega arith;
      short = omega (arith, length-decimal-le 20 n (omega arith) (omega (arith, small)) fits);
      good = none_found p (raw_key n) all;
    }
