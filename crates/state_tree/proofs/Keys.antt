-- The next key where one key more is added, and comparisons of keys.
use Rattle.std.proofs.Common.{◌++◌, Ordering, Less, Equal, Greater, ◌≡◌, ◌≢◌, ◌∙◌, ℕ, true, false, List, [], ◌∷◌, Option, Some, None, refl, sym, inl, inr}
use Rattle.std.specs.List.{Contains}
use Rattle.std.specs.Ordering.{nat_cmp, is_lt, is_gt, is_eq, ordering_reverse}
use Rattle.std.specs.Cmp.Lexicographic.{slice_cmp}
use Rattle.std.proofs.lemmas.Bool.{cases_Bool}
use Rattle.std.proofs.lemmas.Cmp.{nat_list_cmp_total}
use Rattle.std.proofs.lemmas.Map.Text.{is_eq-slice_cmp}
use Rattle.std.proofs.lemmas.Slice.Eq.{bytes_eq-Decides}
use Rattle.root_laws.specs.Root.{is_below, lesser, next_key}
use Rattle.root_laws.proofs.Lists.{all_weaker, contained, not_both}
use Rattle.root_laws.proofs.NextKeys.{Next, below_trans, not_itself, not_back, order, next_of, one_next, next_with}

-- ---- a key covers the new one if it is smaller, and each greater one is above the new one

pub record IsCovering (keys : List (List ℕ)) (cover new : List ℕ) : Type 0 where
  pub among : Contains keys cover
  pub smaller : is_below cover new ≡ true
  pub greatest : (other : List ℕ) → Contains keys other → is_below cover other ≡ true → is_below new other ≡ true

first_of : (keys : List (List ℕ)) (cover new : List ℕ) (o : Option (List ℕ)) → IsCovering keys cover new → Next keys cover o → lesser new o ≡ Some new
first_of keys cover new None is h = refl
first_of keys cover new (Some m) is h = rw (not_back new m (is.greatest m h.0 h.1)) refl

-- The new key is the next one of the covering key.
pub next_of_cover : (keys : List (List ℕ)) (cover new : List ℕ) → IsCovering keys cover new → next_key (keys ++ new ∷ []) cover ≡ Some new
next_of_cover keys cover new is = next_with keys new cover ∙ rw is.smaller (first_of keys cover new (next_key keys cover) is (next_of keys cover))

passed_on : (keys : List (List ℕ)) (cover new : List ℕ) (o : Option (List ℕ)) → IsCovering keys cover new → Next keys cover o → Next keys new o
passed_on keys cover new None is h = all_weaker (λ (other : List ℕ). is_below cover other ≡ false) (λ (other : List ℕ). is_below new other ≡ false) (λ other f. above other f) keys h
  where
    above : (other : List ℕ) → is_below cover other ≡ false → is_below new other ≡ false
    above other f = elim (cases_Bool (is_below new other)) [
      | inr g ↦ g
      | inl t ↦ absurd (not_both (is_below cover other) (below_trans cover new other is.smaller t) f)
    ]
passed_on keys cover new (Some m) is h =
    (h.0, is.greatest m h.0 h.1, all_weaker (λ (other : List ℕ). is_below cover other ≡ true → is_below other m ≡ false) (λ (other : List ℕ). is_below new other ≡ true → is_below other m ≡ false) (λ other f t. f (below_trans cover new other is.smaller t)) keys h.2)

-- The next one of the new key is that which the covering key had.
pub next_of_new : (keys : List (List ℕ)) (cover new : List ℕ) → IsCovering keys cover new → next_key (keys ++ new ∷ []) new ≡ next_key keys cover
next_of_new keys cover new is =
    next_with keys new new ∙ rw (not_itself new) (one_next keys new (next_key keys new) (next_key keys cover) (next_of keys new) (passed_on keys cover new (next_key keys cover) is (next_of keys cover)))

stays : (keys : List (List ℕ)) (cover new key : List ℕ) (o : Option (List ℕ)) → IsCovering keys cover new → is_below key cover ≡ true → Next keys key o → lesser new o ≡ o
stays keys cover new key None is below h = absurd (not_both (is_below key cover) below (contained (λ (other : List ℕ). is_below key other ≡ false) keys cover h is.among))
stays keys cover new key (Some m) is below h =
    let not_past : is_below cover m ≡ false = contained (λ (other : List ℕ). is_below key other ≡ true → is_below other m ≡ false) keys cover h.2 is.among below in
    let before : is_below m new ≡ true = elim (order cover m) [
      | inl t ↦ absurd (not_both (is_below cover m) t not_past)
      | inr (inl e) ↦ rw (← e) is.smaller
      | inr (inr t) ↦ below_trans m cover new t is.smaller
    ] in
    rw before refl

-- All other keys keep theirs.
pub next_stays : (keys : List (List ℕ)) (cover new key : List ℕ) → IsCovering keys cover new → Contains keys key → (key ≡ cover → ⊥) → next_key (keys ++ new ∷ []) key ≡ next_key keys key
next_stays keys cover new key is among other = next_with keys new key ∙ elim (cases_Bool (is_below key new)) [
  | inr f ↦ rw f refl
  | inl t ↦ rw t (elim (order key cover) [
    | inl below ↦ stays keys cover new key (next_key keys key) is below (next_of keys key)
    | inr (inl e) ↦ absurd (other e)
    | inr (inr above) ↦ absurd (not_both (is_below new key) (is.greatest key among above) (not_back key new t))
  ])
]

-- ---- comparisons

-- Nothing is smaller than the empty string.
pub none_below : (key : List ℕ) → is_below key [] ≡ false
none_below [] = refl
none_below (x ∷ key) = refl

pub flip_below : (a b : List ℕ) → is_gt (slice_cmp nat_cmp a b) ≡ is_below b a
flip_below a b = go (slice_cmp nat_cmp a b) (slice_cmp nat_cmp b a) (nat_list_cmp_total.antisymm b a)
  where
    go : (o p : Ordering) → p ≡ ordering_reverse o → is_gt o ≡ is_lt p
    go Less p e = rw e refl
    go Equal p e = rw e refl
    go Greater p e = rw e refl

-- Keys that differ don't compare as equal.
pub not_at : (a b : List ℕ) → a ≢ b → is_eq (slice_cmp nat_cmp a b) ≡ false
not_at a b differ = elim (cases_Bool (is_eq (slice_cmp nat_cmp a b))) [
  | inl t ↦ absurd (differ ((bytes_eq-Decides a b).0 (sym (is_eq-slice_cmp a b) ∙ t)))
  | inr f ↦ f
]
