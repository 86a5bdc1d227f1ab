-- Zero-padded arrays are ordered as the bytes that they hold, if none of these is zero.
use Rattle.std.proofs.Common.{◌≡◌, ◌+◌, ◌-◌, ◌≤◌, ℕ, zero, suc, Bool, true, false, cond, not, nat_lt, List, [], ◌∷◌, ◌++◌, length, get_or, take, replicate, Some, None, inl, inr, true≢false, refl, sym, ap, ◌∙◌, arith}
use Rattle.std.specs.Prelude.{position}
use Rattle.std.specs.List.{position_or_len}
use Rattle.std.specs.Ordering.{nat_cmp, ordering_then}
use Rattle.std.specs.Cmp.{tied_itself}
use Rattle.std.specs.Cmp.Lexicographic.{slice_cmp}
use Rattle.std.proofs.lemmas.Bool.{cases_eq, cases_Bool, ltb-false}
use Rattle.std.proofs.lemmas.Option.{none-some}
use Rattle.std.proofs.lemmas.Cmp.{nat_list_cmp_total}
use Rattle.std.proofs.lemmas.List.{length-take}
use Rattle.std.proofs.lemmas.List.Sums.{fails_before_first}
use Rattle.lc_base.specs.KeyBytes.{is_key_byte, bad_key_byte}
use Rattle.lc_base.specs.NameBytes.{is_name_byte, starts_with_letter, foreign_byte, bad_name_byte}
use Rattle.lc_base.specs.Padding.{zero_padded, HasNoZero, IsPadded}
use Rattle.lc_base.proofs.WordOrder.{less, greater}

none_found : (is_bad : ℕ → Bool) (bytes : List ℕ) → position is_bad bytes ≡ None → length bytes ≤ position_or_len is_bad bytes
none_found is_bad bytes good =
    let first = position_or_len is_bad bytes in
    elim (cases_Bool (nat_lt first (length bytes))) [
      | inl found ↦ absurd (none-some first (sym good ∙ ap (λ (b : Bool). cond b (Some first) None) found))
      | inr none ↦ ltb-false first (length bytes) none
    ]

-- If zero is a bad byte and no byte is bad, then no byte is zero.
no_zero : (is_bad : ℕ → Bool) (bytes : List ℕ) → is_bad 0 ≡ true → position is_bad bytes ≡ None → HasNoZero bytes
no_zero is_bad bytes zero_bad good i inside =
    let all : length bytes ≤ position_or_len is_bad bytes = none_found is_bad bytes good in
    let passes : is_bad (get_or bytes i 0) ≡ false = fails_before_first is_bad bytes i 0 (omega arith) in
    elim (cases_eq (get_or bytes i 0) 0) [
      | inl is_zero ↦ absurd (true≢false (sym zero_bad ∙ ap is_bad (sym is_zero) ∙ passes))
      | inr other ↦ omega arith
    ]

-- Lists without zeros keep their order when zeros fill them up to the same length.
zeros_order : (xs ys : List ℕ) (m n : ℕ) → length xs + m ≡ length ys + n → HasNoZero xs → HasNoZero ys → slice_cmp nat_cmp (xs ++ replicate m 0) (ys ++ replicate n 0) ≡ slice_cmp nat_cmp xs ys
zeros_order [] [] m n same left right =
    let as_many : m ≡ n = omega arith in
    rw as_many (tied_itself nat_list_cmp_total (replicate n 0))
zeros_order [] (y ∷ ys) zero n same left right = absurd (omega arith)
zeros_order [] (y ∷ ys) (suc m) n same left right = rw (less 0 y (right 0 (omega arith))) refl
zeros_order (x ∷ xs) [] m zero same left right = absurd (omega arith)
zeros_order (x ∷ xs) [] m (suc n) same left right = rw (greater x 0 (left 0 (omega arith))) refl
zeros_order (x ∷ xs) (y ∷ ys) m n same left right =
    ap (ordering_then (nat_cmp x y)) (zeros_order xs ys m n (omega arith) (λ i inside. left (suc i) (omega arith)) (λ i inside. right (suc i) (omega arith)))

padded_order : (width : ℕ) (xs ys : List ℕ) → length xs ≤ width → length ys ≤ width → HasNoZero xs → HasNoZero ys → slice_cmp nat_cmp (zero_padded width xs) (zero_padded width ys) ≡ slice_cmp nat_cmp xs ys
padded_order width xs ys short shorter left right = zeros_order xs ys (width - length xs) (width - length ys) (omega arith) left right

-- Two arrays are ordered as the bytes that they hold.
pub array_order : (width m n : ℕ) (xs ys : List ℕ) → IsPadded width m xs → IsPadded width n ys → slice_cmp nat_cmp xs ys ≡ slice_cmp nat_cmp (take m xs) (take n ys)
array_order width m n xs ys left right =
    (λ i. slice_cmp nat_cmp (left.padded i) (right.padded i))
    ∙ padded_order width (take m xs) (take n ys) (omega (arith, left.short, length-take m xs)) (omega (arith, right.short, length-take n ys)) left.no_zero right.no_zero

pub key_has_no_zero : (key : List ℕ) → bad_key_byte key ≡ None → HasNoZero key
key_has_no_zero key good = no_zero (λ byte. not (is_key_byte byte)) key refl good

pub name_has_no_zero : (name : List ℕ) → bad_name_byte name ≡ None → HasNoZero name
name_has_no_zero name good = elim (cases_Bool (starts_with_letter name)) [
  | inl starts ↦ no_zero (λ byte. not (is_name_byte byte)) name refl (ap (λ (b : Bool). cond b (foreign_byte name) (Some 0)) (sym starts) ∙ good)
  | inr digit ↦ absurd (none-some 0 (sym good ∙ ap (λ (b : Bool). cond b (foreign_byte name) (Some 0)) digit))
]
