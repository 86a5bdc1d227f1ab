-- Different names have different codes.
use Rattle.std.proofs.Common.{◌≡◌, ◌∙◌, ◌<◌, ◌≤◌, ℕ, zero, suc, ◌+◌, ◌-◌, ◌*◌, ◌^◌, Bool, true, false, not, List, [], ◌∷◌, drop, length, get_or, Option, Some, None, inl, inr, refl, sym, ap, arith}
use Rattle.std.specs.Option.{option_map}
use Rattle.std.proofs.lemmas.Bool.{cases_Bool}
use Rattle.std.proofs.lemmas.Bool.Decides.{nat_tests}
use Rattle.std.proofs.lemmas.Nat.{pow-add}
use Rattle.lc_base.specs.NameBytes.{IsName, is_name_byte, foreign_byte, starts_with_letter}
use Rattle.lc_base.specs.NameBytes.{bad_name_byte}
use Rattle.contract_check.specs.Codes.{code}
use Rattle.contract_check.proofs.FirstPlaces.{at_head, past_head}

-- ---- digits

-- Each of these is from 1 to 255.
abbrev pub AreDigits : List ℕ → Type 0
AreDigits [] = Unit {0}
AreDigits (byte ∷ bytes) = (0 < byte) × (byte < 256) × AreDigits bytes

pub one_code : (xs ys : List ℕ) → AreDigits xs → AreDigits ys → code xs ≡ code ys → xs ≡ ys
one_code [] [] h k e = refl
one_code [] (y ∷ ys) h k e = absurd (omega (arith, k.0, e))
one_code (x ∷ xs) [] h k e = absurd (omega (arith, h.0, e))
one_code (x ∷ xs) (y ∷ ys) h k e =
    let first : x ≡ y = omega (arith, h.1, k.1, e) in
    let later : code xs ≡ code ys = omega (arith, h.1, k.1, e) in
    ap (λ (n : ℕ). n ∷ xs) first ∙ ap (λ (l : List ℕ). y ∷ l) (one_code xs ys h.2 k.2 later)

-- ---- the bytes of a name

name_byte : (byte : ℕ) → is_name_byte byte ≡ true → (0 < byte) × (byte < 256)
name_byte byte e = (grind (arith, nat_tests, e), grind (arith, nat_tests, e))

some_or_none : (o : Option ℕ) (n : ℕ) → o ≡ Some n → o ≡ None → ⊥
some_or_none None n e f = absurd cc
some_or_none (Some m) n e f = absurd cc

none_later : (o : Option ℕ) → option_map suc o ≡ None → o ≡ None
none_later None e = refl
none_later (Some n) e = absurd cc

digits : (bytes : List ℕ) → foreign_byte bytes ≡ None → AreDigits bytes
digits [] e = tt
digits (byte ∷ bytes) e = elim (cases_Bool (is_name_byte byte)) [
  | inl t ↦
      let later = none_later (foreign_byte bytes) (sym (past_head (λ byte. not (is_name_byte byte)) byte bytes (rw t refl)) ∙ e) in
      let good = name_byte byte t in
      (good.0, good.1, digits bytes later)
  | inr f ↦ absurd (some_or_none (foreign_byte (byte ∷ bytes)) 0 (at_head (λ byte. not (is_name_byte byte)) byte bytes (rw f refl)) e)
]

foreign_none : (bytes : List ℕ) (b : Bool) → starts_with_letter bytes ≡ b → bad_name_byte bytes ≡ None → foreign_byte bytes ≡ None
foreign_none bytes true is e = rw is at e
foreign_none bytes false is e = absurd (some_or_none (bad_name_byte bytes) 0 (rw is refl) e)

pub name_digits : (name : List ℕ) → IsName name → AreDigits name
name_digits name is = digits name (foreign_none name (starts_with_letter name) refl is.good)

pub names_differ : (name other : List ℕ) → IsName name → IsName other → code name ≡ code other → name ≡ other
names_differ name other is too e = one_code name other (name_digits name is) (name_digits other too) e

-- ---- digit by digit

pub one_digit_more : (bytes : List ℕ) (i : ℕ) (d : ℕ) → i < length bytes → code (drop i bytes) ≡ code (drop (i + 1) bytes) * 256 + get_or bytes i d
one_digit_more [] i d l = absurd (omega (arith, l))
one_digit_more (byte ∷ bytes) zero d l = refl
one_digit_more (byte ∷ bytes) (suc i) d l = (let next : suc i + 1 ≡ suc (i + 1) = omega arith in rw next (one_digit_more bytes i d (omega (arith, l))))

power_more : (k : ℕ) → 256 ^ (k + 1) ≡ 256 ^ k * 256
power_more k = pow-add 256 k 1

power_grows : (k m : ℕ) → 256 ^ k ≤ 256 ^ (k + m)
power_grows k zero = (let same : k ≡ k + 0 = omega arith in rw (← same) (omega arith))
power_grows k (suc m) =
    let before = power_grows k m in
    let next : k + suc m ≡ k + m + 1 = omega arith in
    rw (next, power_more (k + m)) (omega (arith, before))

pub room : (length i n : ℕ) → length ≤ 16 → 0 < i → i ≤ length → n < 256 ^ (length - i) → n < 2 ^ 120
room length i n short some within small =
    let k = length - i in
    let rest : k + (15 - k) ≡ 15 = omega (arith, short, some, within) in
    let most : 256 ^ k ≤ 256 ^ (k + (15 - k)) = power_grows k (15 - k) in
    let most' : 256 ^ k ≤ 256 ^ 15 = rw rest at most in
    omega (arith, most', small)

pub next_digit : (bytes : List ℕ) (i n byte : ℕ) → 0 < i → i ≤ length bytes → n ≡ code (drop i bytes) → n < 256 ^ (length bytes - i) → byte ≡ get_or bytes (i - 1) 0 → byte < 256
    → (n * 256 + byte ≡ code (drop (i - 1) bytes)) × (n * 256 + byte < 256 ^ (length bytes - (i - 1)))
next_digit bytes i n byte some within is small at digit =
    let back : i - 1 + 1 ≡ i = omega (arith, some) in
    let whole = one_digit_more bytes (i - 1) 0 (omega (arith, some, within)) in
    let next : length bytes - (i - 1) ≡ length bytes - i + 1 = omega (arith, some, within) in (
      ap (λ (n : ℕ). n * 256 + byte) (is ∙ ap (λ (i : ℕ). code (drop i bytes)) (sym back)) ∙ ap (λ (byte' : ℕ). code (drop (i - 1 + 1) bytes) * 256 + byte') at ∙ sym whole,
      rw (next, power_more (length bytes - i)) (omega (arith, small, digit)),
    )
