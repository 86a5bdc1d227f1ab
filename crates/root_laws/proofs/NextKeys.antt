-- The next key is the least greater one.
use Rattle.std.proofs.Common.{◌++◌, Ordering, Less, Equal, Greater, ◌≡◌, ◌∙◌, ℕ, suc, true, false, if◌then◌else◌, List, [], ◌∷◌, Option, Some, None, refl, sym, ap, arith, inl, inr, ◌⊎◌}
use Rattle.std.specs.List.{AllByRecursion, Contains}
use Rattle.std.specs.Ordering.{nat_cmp, is_lt, is_eq, ordering_reverse}
use Rattle.std.specs.Cmp.Lexicographic.{slice_cmp}
use Rattle.std.proofs.lemmas.Bool.{cases_Bool}
use Rattle.std.proofs.lemmas.Cmp.{nat_list_cmp_total, tied_itself}
use Rattle.std.proofs.lemmas.Map.Text.{is_eq-slice_cmp}
use Rattle.std.proofs.lemmas.Slice.Eq.{bytes_eq-Decides}
use Rattle.std.proofs.lemmas.List.Elements.{Contains-push, Contains-append_left, All-from_recursion, recursion_from_All}
use Rattle.root_laws.specs.Root.{is_below, lesser, next_key}
use Rattle.root_laws.specs.KeyLaws.{IsNext}
use Rattle.root_laws.proofs.Lists.{all_weaker, all_contained, contained, not_both}

-- what the law says, by recursion on the keys
abbrev pub Next : List (List ℕ) → List ℕ → Option (List ℕ) → Type 0
Next keys key None = AllByRecursion (λ (other : List ℕ). is_below key other ≡ false) keys
Next keys key (Some next) = Contains keys next × (is_below key next ≡ true) × AllByRecursion (λ (other : List ℕ). is_below key other ≡ true → is_below other next ≡ false) keys

to_law : (keys : List (List ℕ)) (key : List ℕ) (o : Option (List ℕ)) → Next keys key o → IsNext keys key o
to_law keys key None h = All-from_recursion (λ (other : List ℕ). is_below key other ≡ false) keys h
to_law keys key (Some next) h = (h.0, h.1, All-from_recursion (λ (other : List ℕ). is_below key other ≡ true → is_below other next ≡ false) keys h.2)

from_law : (keys : List (List ℕ)) (key : List ℕ) (o : Option (List ℕ)) → IsNext keys key o → Next keys key o
from_law keys key None h = recursion_from_All (λ (other : List ℕ). is_below key other ≡ false) keys h
from_law keys key (Some next) h = (h.0, h.1, recursion_from_All (λ (other : List ℕ). is_below key other ≡ true → is_below other next ≡ false) keys h.2)

less_from : (o : Ordering) → is_lt o ≡ true → o ≡ Less
less_from Less e = refl
less_from Equal e = absurd (not_both false e refl)
less_from Greater e = absurd (not_both false e refl)

pub below_trans : (a b c : List ℕ) → is_below a b ≡ true → is_below b c ≡ true → is_below a c ≡ true
below_trans a b c x y = ap is_lt (nat_list_cmp_total.trans a b c (less_from (slice_cmp nat_cmp a b) x) (less_from (slice_cmp nat_cmp b c) y))

pub not_itself : (a : List ℕ) → is_below a a ≡ false
not_itself a = ap is_lt (tied_itself nat_list_cmp_total a)

pub not_back : (a b : List ℕ) → is_below a b ≡ true → is_below b a ≡ false
not_back a b x = elim (cases_Bool (is_below b a)) [
  | inr f ↦ f
  | inl t ↦ absurd (not_both (is_below a a) (below_trans a b a x t) (not_itself a))
]

-- two keys are in one order or the other, or the same
pub order : (a b : List ℕ) → (is_below a b ≡ true) ⊎ ((a ≡ b) ⊎ (is_below b a ≡ true))
order a b = go (slice_cmp nat_cmp a b) refl
  where
    go : (o : Ordering) → slice_cmp nat_cmp a b ≡ o → (is_below a b ≡ true) ⊎ ((a ≡ b) ⊎ (is_below b a ≡ true))
    go Less e = inl (ap is_lt e)
    go Equal e = inr (inl ((bytes_eq-Decides a b).0 (sym (is_eq-slice_cmp a b) ∙ ap is_eq e)))
    go Greater e = inr (inr (ap is_lt (nat_list_cmp_total.antisymm b a ∙ ap ordering_reverse e)))

later : (x : List ℕ) (keys : List (List ℕ)) (n : List ℕ) → Contains keys n → Contains (x ∷ keys) n
later x keys n c = (suc c.0, omega (arith, c.1), c.2)

-- if the first key is greater
first_greater : (x : List ℕ) (keys : List (List ℕ)) (key : List ℕ) (o : Option (List ℕ)) → is_below key x ≡ true → Next keys key o → Next (x ∷ keys) key (lesser x o)
first_greater x keys key None b h = ((0, omega arith, refl), b, ((λ t. not_itself x), all_weaker (λ (other : List ℕ). is_below key other ≡ false) (λ (other : List ℕ). is_below key other ≡ true → is_below other x ≡ false) (λ other f t. absurd (not_both (is_below key other) t f)) keys h))
first_greater x keys key (Some m) b h = elim (cases_Bool (is_below m x)) [
  | inl t ↦ rw t (later x keys m h.0, h.1, ((λ u. not_back m x t), h.2))
  | inr f ↦ rw f ((0, omega arith, refl), b, ((λ t. not_itself x), all_weaker (λ (other : List ℕ). is_below key other ≡ true → is_below other m ≡ false) (λ (other : List ℕ). is_below key other ≡ true → is_below other x ≡ false) (λ other k t. above other (k t) f) keys h.2))
]
  where
    above : (other : List ℕ) → is_below other m ≡ false → is_below m x ≡ false → is_below other x ≡ false
    above other k f = elim (cases_Bool (is_below other x)) [
      | inr g ↦ g
      | inl t ↦ elim (order other m) [
        | inl u ↦ absurd (not_both (is_below other m) u k)
        | inr (inl e) ↦ absurd (not_both (is_below m x) (rw e at t) f)
        | inr (inr u) ↦ absurd (not_both (is_below m x) (below_trans m other x u t) f)
      ]
    ]

first_lower : (x : List ℕ) (keys : List (List ℕ)) (key : List ℕ) (o : Option (List ℕ)) → is_below key x ≡ false → Next keys key o → Next (x ∷ keys) key o
first_lower x keys key None b h = (b, h)
first_lower x keys key (Some m) b h = (later x keys m h.0, h.1, ((λ t. absurd (not_both (is_below key x) t b)), h.2))

pub next_of : (keys : List (List ℕ)) (key : List ℕ) → Next keys key (next_key keys key)
next_of [] key = tt
next_of (x ∷ keys) key = elim (cases_Bool (is_below key x)) [
  | inl t ↦ rw t (first_greater x keys key (next_key keys key) t (next_of keys key))
  | inr f ↦ rw f (first_lower x keys key (next_key keys key) f (next_of keys key))
]

pub next_is : (keys : List (List ℕ)) (key : List ℕ) → IsNext keys key (next_key keys key)
next_is keys key = to_law keys key (next_key keys key) (next_of keys key)

pub one_next : (keys : List (List ℕ)) (key : List ℕ) (o p : Option (List ℕ)) → Next keys key o → Next keys key p → o ≡ p
one_next keys key None None h k = refl
one_next keys key None (Some m) h k = absurd (not_both (is_below key m) k.1 (contained (λ (other : List ℕ). is_below key other ≡ false) keys m h k.0))
one_next keys key (Some n) None h k = absurd (not_both (is_below key n) h.1 (contained (λ (other : List ℕ). is_below key other ≡ false) keys n k h.0))
one_next keys key (Some n) (Some m) h k = elim (order n m) [
  | inl t ↦ absurd (not_both (is_below n m) t (contained (λ (other : List ℕ). is_below key other ≡ true → is_below other m ≡ false) keys n k.2 h.0 h.1))
  | inr (inl e) ↦ ap (λ (x : List ℕ). Some x) e
  | inr (inr t) ↦ absurd (not_both (is_below m n) t (contained (λ (other : List ℕ). is_below key other ≡ true → is_below other n ≡ false) keys m h.2 k.0 k.1))
]

-- there is one next key
pub next_unique : (keys : List (List ℕ)) (key : List ℕ) (next : Option (List ℕ)) → IsNext keys key next → next ≡ next_key keys key
next_unique keys key next h = one_next keys key next (next_key keys key) (from_law keys key next h) (next_of keys key)

-- ---- one key more

all_last : {X : Type 0} (P : X → Type 0) (x : X) (xs : List X) → AllByRecursion P (x ∷ xs) → AllByRecursion P (xs ++ x ∷ [])
all_last P x [] h = h
all_last P x (y ∷ xs) h = (h.1.0, all_last P x xs (h.0, h.1.1))

last_next : (keys : List (List ℕ)) (new key : List ℕ) (o : Option (List ℕ)) → Next (new ∷ keys) key o → Next (keys ++ new ∷ []) key o
last_next keys new key None h = all_last (λ (other : List ℕ). is_below key other ≡ false) new keys h
last_next keys new key (Some n) h = (
  contained (Contains (keys ++ new ∷ [])) (new ∷ keys) n (Contains-push keys new, here keys) h.0,
  h.1,
  all_last (λ (other : List ℕ). is_below key other ≡ true → is_below other n ≡ false) new keys h.2,
)
  where
    here : (xs : List (List ℕ)) → AllByRecursion (Contains (xs ++ new ∷ [])) xs
    here xs = all_weaker (Contains xs) (Contains (xs ++ new ∷ [])) (λ x c. Contains-append_left xs (new ∷ []) x c) xs (all_contained xs)

-- the next key after one more: the new one if it is greater, and less than what was next
pub next_with : (keys : List (List ℕ)) (new key : List ℕ) → next_key (keys ++ new ∷ []) key ≡ (if is_below key new then lesser new (next_key keys key) else next_key keys key)
next_with keys new key = elim (cases_Bool (is_below key new)) [
  | inl t ↦ rw t (one_next (keys ++ new ∷ []) key (next_key (keys ++ new ∷ []) key) (lesser new (next_key keys key)) (next_of (keys ++ new ∷ []) key)
      (last_next keys new key (lesser new (next_key keys key)) (first_greater new keys key (next_key keys key) t (next_of keys key))))
  | inr f ↦ rw f (one_next (keys ++ new ∷ []) key (next_key (keys ++ new ∷ []) key) (next_key keys key) (next_of (keys ++ new ∷ []) key)
      (last_next keys new key (next_key keys key) (first_lower new keys key (next_key keys key) f (next_of keys key))))
]
