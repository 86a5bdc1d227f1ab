-- Lists in general: what holds of all items, filters, what is found, and ranges.
use Rattle.std.proofs.Common.{◌≡◌, ℕ, zero, suc, ◌+◌, Bool, true, false, List, [], ◌∷◌, ◌++◌, Option, refl, ap, arith, filter, reverse, inl, inr}
use Rattle.std.specs.Prelude.{None}
use Rattle.std.specs.List.{find, list_any, filter_map, range_with_len, AllByRecursion}
use Rattle.std.proofs.lemmas.List.{append-nil, reverse-append}
use Rattle.std.proofs.lemmas.List.Elements.{filter-append}
use Rattle.std.proofs.lemmas.Bool.{cases_Bool}

pub not_both : (b : Bool) → b ≡ true → b ≡ false → ⊥
not_both true e f = cc
not_both false e f = cc

-- ---- what holds of all items

pub all_weaker : {X : Type 0} (P Q : X → Type 0) → ((x : X) → P x → Q x) → (xs : List X) → AllByRecursion P xs → AllByRecursion Q xs
all_weaker P Q f [] h = tt
all_weaker P Q f (x ∷ xs) h = (f x h.0, all_weaker P Q f xs h.1)

pub all_append : {X : Type 0} (P : X → Type 0) (xs ys : List X) → AllByRecursion P xs → AllByRecursion P ys → AllByRecursion P (xs ++ ys)
all_append P [] ys h k = k
all_append P (x ∷ xs) ys h k = (h.0, all_append P xs ys h.1 k)

pub all_reverse : {X : Type 0} (P : X → Type 0) (xs : List X) → AllByRecursion P xs → AllByRecursion P (reverse xs)
all_reverse P [] h = tt
all_reverse P (x ∷ xs) h = rw (reverse-append (x ∷ []) xs) (all_append P (reverse xs) (x ∷ []) (all_reverse P xs h.1) (h.0, tt))

-- ---- filters

pub filter_reverse : {X : Type 0} (p : X → Bool) (xs : List X) → reverse (filter p xs) ≡ filter p (reverse xs)
filter_reverse p [] = refl
filter_reverse p (x ∷ xs) =
    rw (reverse-append (x ∷ []) xs, filter-append p (reverse xs) (x ∷ []))
    (elim (cases_Bool (p x)) [
      | inl e ↦ rw (e, reverse-append (x ∷ []) (filter p xs), filter_reverse p xs) refl
      | inr e ↦ rw (e, append-nil (filter p (reverse xs))) (filter_reverse p xs)
    ])

pub filter_map_on : (f g : ℕ → Option ℕ) (xs : List ℕ) → ((x : ℕ) → f x ≡ g x) → filter_map f xs ≡ filter_map g xs
filter_map_on f g [] h = refl
filter_map_on f g (x ∷ xs) h = let rest = filter_map_on f g xs h in rw (h x, rest) refl

pub filter_map_none : (f : ℕ → Option ℕ) (xs : List ℕ) → ((x : ℕ) → f x ≡ None) → filter_map f xs ≡ []
filter_map_none f [] h = refl
filter_map_none f (x ∷ xs) h = rw (h x) (filter_map_none f xs h)

-- ---- what is found

pub find_on : {X : Type 0} (p q : X → Bool) (xs : List X) → AllByRecursion (λ x. p x ≡ q x) xs → find p xs ≡ find q xs
find_on p q [] h = refl
find_on p q (x ∷ xs) h = let rest = find_on p q xs h.1 in rw (h.0, rest) refl

-- what passes the first test passes the second, so it is found in what the second leaves
pub find_filter : {X : Type 0} (p q : X → Bool) (xs : List X) → ((x : X) → p x ≡ true → q x ≡ true) → find p (filter q xs) ≡ find p xs
find_filter p q [] f = refl
find_filter p q (x ∷ xs) f =
    let rest = find_filter p q xs f in
    elim (cases_Bool (q x)) [
      | inl t ↦ rw (t, rest) refl
      | inr t ↦ elim (cases_Bool (p x)) [
        | inl u ↦ absurd (not_both (q x) (f x u) t)
        | inr u ↦ rw (t, u) rest
      ]
    ]

pub any_filter : {X : Type 0} (p q : X → Bool) (xs : List X) → ((x : X) → p x ≡ true → q x ≡ true) → list_any p (filter q xs) ≡ list_any p xs
any_filter p q [] f = refl
any_filter p q (x ∷ xs) f =
    let rest = any_filter p q xs f in
    elim (cases_Bool (q x)) [
      | inl t ↦ rw (t, rest) refl
      | inr t ↦ elim (cases_Bool (p x)) [
        | inl u ↦ absurd (not_both (q x) (f x u) t)
        | inr u ↦ rw (t, u) rest
      ]
    ]

-- ---- ranges

pub range_first : (n : ℕ) → range_with_len 0 (n + 1) ≡ 0 ∷ range_with_len 1 n
range_first n = let e : n + 1 ≡ suc n = omega arith in rw e refl

pub range_more : (a n : ℕ) → range_with_len a (n + 1) ≡ range_with_len a n ++ (a + n) ∷ []
range_more a zero = let e : a + 0 ≡ a = omega arith in rw e refl
range_more a (suc n) =
    let e : suc n + 1 ≡ suc (n + 1) = omega arith in
    let f : a + suc n ≡ a + 1 + n = omega arith in
    rw (e, f) (ap (λ (t : List ℕ). a ∷ t) (range_more (a + 1) n))
