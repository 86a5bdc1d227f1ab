-- Checking the two bytes of a key's length and then reading any leaf is reading the leaf at the
-- index.
use Rattle.std.proofs.Common.{◌≡◌, ◌∙◌, ℕ, zero, suc, ◌<◌, Bool, true, false, cond, not, ◌==◌, ◌&&◌, nat_le, nat_lt, is_none, List, [], ◌∷◌, length, take, Option, Some, None, Ok, Err, refl, sym, ap, arith, inl, inr}
use Rattle.std.specs.Int.{w16, from_be_bytes}
use Rattle.std.proofs.lemmas.Bool.{cases_Bool, cases_lt, and_parts, and_right, eqb-true, le-leb, le-ltb, lt-ltb, lt-leb}
use Rattle.std.proofs.lemmas.List.{length-take}
use Rattle.lc_base.specs.declared.name_limits.TheConstants.{MAX_KEY_BYTES}
use Rattle.lc_base.specs.KeyBytes.{bad_key_byte}
use Rattle.entry_views.specs.byte_fields.Reading.{Field, ◌>>=◌, number_at, bytes_at, string_at}
use Rattle.entry_views.specs.byte_fields.Reading.{key_at, key_unless_empty, key_or_empty_at}
use Rattle.entry_views.specs.Reading.{leaf_at}
use Rattle.proof_codec.specs.Reading.{none_bad, leaf_key_at, leaf_at_index}
use Rattle.proof_codec.proofs.Proofs.{above_zero}
use Rattle.proof_codec.specs.Leaf.{begins_as}

abbrev two : ℕ → ℕ → ℕ
two high low = from_be_bytes w16 (high ∷ low ∷ [])

two_bytes : (high low : ℕ) (bytes : List ℕ) → number_at w16 (high ∷ low ∷ bytes) ≡ Ok (two high low, bytes)
unfolding number_at
two_bytes high low bytes = let long : nat_lt (length (high ∷ low ∷ bytes)) 2 ≡ false = le-ltb (length (high ∷ low ∷ bytes)) 2 (omega arith) in rw long refl

too_few : (bytes : List ℕ) → length bytes < 2 → number_at w16 bytes ≡ Err (length bytes)
unfolding number_at
too_few bytes few = rw (lt-ltb (length bytes) 2 few) refl

-- What is read after the length of a string.
abbrev string_after : ℕ → ℕ → (List ℕ → Option ℕ) → ℕ → List ℕ → ℕ → Field (List ℕ)
string_after low high bad total bytes n =
    (cond (nat_le low n && nat_le n high) (Ok (n, bytes)) (Err total)) >>= (λ (a : ℕ × List ℕ). bytes_at a.0 a.1 >>= (λ (b : List ℕ × List ℕ). cond (is_none (bad b.0)) (Ok b) (Err (length a.1))))

string_is : (low high : ℕ) (bad : List ℕ → Option ℕ) (h l : ℕ) (bytes : List ℕ) → string_at low high bad (h ∷ l ∷ bytes) ≡ string_after low high bad (length (h ∷ l ∷ bytes)) bytes (two h l)
unfolding string_at
string_is low high bad h l bytes = rw (two_bytes h l bytes) refl

string_short : (low high : ℕ) (bad : List ℕ → Option ℕ) (bytes : List ℕ) → length bytes < 2 → string_at low high bad bytes ≡ Err (length bytes)
unfolding string_at
string_short low high bad bytes few = rw (too_few bytes few) refl

-- A string of no bytes.
no_string : (low high : ℕ) (bad : List ℕ → Option ℕ) (total : ℕ) (bytes : List ℕ) → low ≡ 0 → bad [] ≡ None → string_after low high bad total bytes 0 ≡ Ok ([], bytes)
unfolding bytes_at
no_string low high bad total bytes z good =
    rw (z, le-leb 0 high (omega arith), le-ltb (length bytes) 0 (omega arith), good) refl

some_string : (high : ℕ) (bad : List ℕ → Option ℕ) (total : ℕ) (bytes : List ℕ) (n : ℕ) → 0 < n → string_after 1 high bad total bytes n ≡ string_after 0 high bad total bytes n
some_string high bad total bytes n some = rw (le-leb 1 n (omega (arith, some)), le-leb 0 n (omega arith)) refl

key_there : (xs : List ℕ) → 0 < length xs → key_unless_empty xs ≡ Some xs
key_there [] some = absurd (omega (arith, some))
key_there (x ∷ xs) some = refl

abbrev none_with : List ℕ → Field (Option (List ℕ))
none_with rest = Ok (None, rest)

-- ---- the two bytes of a length

is_zero : (high low : ℕ) → (high == 0 && low == 0) ≡ true → two high low ≡ 0
is_zero high low t = let parts = and_parts (high == 0) (low == 0) t in let h = eqb-true high 0 parts.0 in let l = eqb-true low 0 parts.1 in omega (arith, h, l)

is_some_length : (high low : ℕ) → (high == 0 && low == 0) ≡ false → 0 < two high low
is_some_length high low f = elim (cases_lt 0 (two high low)) [
  | inl some ↦ some
  | inr none ↦
      let h : high ≡ 0 = omega (arith, none) in
      let l : low ≡ 0 = omega (arith, none) in
      absurd (let t : (high == 0 && low == 0) ≡ true = rw (h, l) refl in let no : true ≡ false = sym t ∙ f in cc)
]

-- ---- the key

abbrev a_key : List ℕ × List ℕ → Field (Option (List ℕ))
a_key a = Ok (Some a.0, a.1)

abbrev key_if_any : List ℕ × List ℕ → Field (Option (List ℕ))
key_if_any a = Ok (key_unless_empty a.0, a.1)

same_keys : (high : ℕ) (bad : List ℕ → Option ℕ) (total : ℕ) (bytes : List ℕ) (n : ℕ) → 0 < n → (string_after 0 high bad total bytes n >>= a_key) ≡ (string_after 0 high bad total bytes n >>= key_if_any)
unfolding bytes_at
same_keys high bad total bytes n some = elim (cases_Bool (nat_le 0 n && nat_le n high)) [
  | inr f ↦ rw f refl
  | inl t ↦ elim (cases_lt (length bytes) n) [
    | inl short ↦ rw (t, lt-ltb (length bytes) n short) refl
    | inr long ↦ elim (cases_Bool (is_none (bad (take n bytes)))) [
      | inr f ↦ rw (t, le-ltb (length bytes) n long, f) refl
      | inl u ↦ let there : key_unless_empty (take n bytes) ≡ Some (take n bytes) = key_there (take n bytes) (omega (arith, some, long, length-take n bytes)) in rw (t, le-ltb (length bytes) n long, u, there) refl
    ]
  ]
]

passed_key : (index : ℕ) (bytes : List ℕ) → begins_as index bytes ≡ true → leaf_key_at index bytes ≡ key_or_empty_at bytes
unfolding key_or_empty_at key_at
passed_key index [] t = absurd cc
passed_key index (high ∷ []) t = absurd cc
passed_key zero (high ∷ low ∷ bytes) t =
    let z : two high low ≡ 0 = is_zero high low t in
    let total : ℕ = length (high ∷ low ∷ bytes) in
    let own : string_at 0 0 none_bad (high ∷ low ∷ bytes) ≡ Ok ([], bytes) =
    string_is 0 0 none_bad high low bytes ∙ ap (string_after 0 0 none_bad total bytes) z ∙ no_string 0 0 none_bad total bytes refl refl in
    let any : string_at 0 MAX_KEY_BYTES bad_key_byte (high ∷ low ∷ bytes) ≡ Ok ([], bytes) =
    string_is 0 MAX_KEY_BYTES bad_key_byte high low bytes ∙ ap (string_after 0 MAX_KEY_BYTES bad_key_byte total bytes) z ∙ no_string 0 MAX_KEY_BYTES bad_key_byte total bytes refl refl in
    ap (λ (r : Field (List ℕ)). r >>= (λ (a : List ℕ × List ℕ). none_with a.1)) own ∙ sym (ap (λ (r : Field (List ℕ)). r >>= key_if_any) any)
passed_key (suc index) (high ∷ low ∷ bytes) t =
    let some : 0 < two high low = is_some_length high low (not_so (high == 0 && low == 0) (apart index t)) in
    let total : ℕ = length (high ∷ low ∷ bytes) in
    ap (λ (r : Field (List ℕ)). r >>= a_key) (string_is 1 MAX_KEY_BYTES bad_key_byte high low bytes ∙ some_string MAX_KEY_BYTES bad_key_byte total bytes (two high low) some)
    ∙ same_keys MAX_KEY_BYTES bad_key_byte total bytes (two high low) some
    ∙ sym (ap (λ (r : Field (List ℕ)). r >>= key_if_any) (string_is 0 MAX_KEY_BYTES bad_key_byte high low bytes))
  where
    not_so : (b : Bool) → not b ≡ true → b ≡ false
    not_so true e = absurd cc
    not_so false e = refl

    apart : (index : ℕ) → begins_as (suc index) (high ∷ low ∷ bytes) ≡ true → not (high == 0 && low == 0) ≡ true
    apart index t = sym (ap (λ (b : Bool). cond b (high == 0 && low == 0) (not (high == 0 && low == 0))) (above_zero index)) ∙ t

failed_key : (index : ℕ) (bytes : List ℕ) → begins_as index bytes ≡ false → leaf_key_at index bytes ≡ Err (length bytes)
unfolding key_at
failed_key zero [] f = ap (λ (r : Field (List ℕ)). r >>= (λ (a : List ℕ × List ℕ). none_with a.1)) (string_short 0 0 none_bad [] (omega arith))
failed_key zero (high ∷ []) f = ap (λ (r : Field (List ℕ)). r >>= (λ (a : List ℕ × List ℕ). none_with a.1)) (string_short 0 0 none_bad (high ∷ []) (omega arith))
failed_key (suc index) [] f = ap (λ (r : Field (List ℕ)). r >>= a_key) (string_short 1 MAX_KEY_BYTES bad_key_byte [] (omega arith))
failed_key (suc index) (high ∷ []) f = ap (λ (r : Field (List ℕ)). r >>= a_key) (string_short 1 MAX_KEY_BYTES bad_key_byte (high ∷ []) (omega arith))
failed_key zero (high ∷ low ∷ bytes) f =
    let some : 0 < two high low = is_some_length high low f in
    let long : (nat_le 0 (two high low) && nat_le (two high low) 0) ≡ false = and_right (nat_le 0 (two high low)) (nat_le (two high low) 0) (lt-leb (two high low) 0 some) in
    let own : string_at 0 0 none_bad (high ∷ low ∷ bytes) ≡ Err (length (high ∷ low ∷ bytes)) = string_is 0 0 none_bad high low bytes ∙ rw long refl in
    ap (λ (r : Field (List ℕ)). r >>= (λ (a : List ℕ × List ℕ). none_with a.1)) own
failed_key (suc index) (high ∷ low ∷ bytes) f =
    let none : two high low ≡ 0 = is_zero high low (is_so (high == 0 && low == 0) (apart index f)) in
    let short : (nat_le 1 (two high low) && nat_le (two high low) MAX_KEY_BYTES) ≡ false = ap (λ (n : ℕ). nat_le 1 n && nat_le n MAX_KEY_BYTES) none in
    let own : string_at 1 MAX_KEY_BYTES bad_key_byte (high ∷ low ∷ bytes) ≡ Err (length (high ∷ low ∷ bytes)) = string_is 1 MAX_KEY_BYTES bad_key_byte high low bytes ∙ rw short refl in
    ap (λ (r : Field (List ℕ)). r >>= a_key) own
  where
    is_so : (b : Bool) → not b ≡ false → b ≡ true
    is_so true e = refl
    is_so false e = absurd cc

    apart : (index : ℕ) → begins_as (suc index) (high ∷ low ∷ bytes) ≡ false → not (high == 0 && low == 0) ≡ false
    apart index t = sym (ap (λ (b : Bool). cond b (high == 0 && low == 0) (not (high == 0 && low == 0))) (above_zero index)) ∙ t

-- ---- the leaf

pub index_passed : (index : ℕ) (bytes : List ℕ) → begins_as index bytes ≡ true → leaf_at_index index bytes ≡ leaf_at bytes
unfolding leaf_at_index leaf_at
index_passed index bytes t = rw (passed_key index bytes t) refl

pub index_failed : (index : ℕ) (bytes : List ℕ) → begins_as index bytes ≡ false → leaf_at_index index bytes ≡ Err (length bytes)
unfolding leaf_at_index
index_failed index bytes f = rw (failed_key index bytes f) refl
