-- Where the leaf of a key is.
use Rattle.std.proofs.Common.{◌≡◌, ◌≢◌, ℕ, zero, suc, ◌+◌, ◌<◌, Bool, true, false, List, [], ◌∷◌, ◌++◌, length, get_or, map, Option, Some, None, refl, sym, ap, ◌∙◌, arith, inl, inr, ◌⊎◌}
use Rattle.std.specs.Prelude.{slice_get, position}
use Rattle.std.specs.List.{Contains, position_from}
use Rattle.std.proofs.lemmas.Bool.{cases_Bool}
use Rattle.std.proofs.lemmas.List.{get_or-map, length-map}
use Rattle.std.proofs.lemmas.List.Quantifiers.{position-Some}
use Rattle.std.proofs.lemmas.Option.{slice_get-get_or}
use Rattle.std.proofs.lemmas.Iterator.Adapters.{position_from-zero}
use Rattle.std.proofs.lemmas.Slice.Eq.{bytes_eq-Decides}
use Rattle.root_laws.specs.prov_entry.declared.entry.Leaf.{Leaf}
use Rattle.root_laws.proofs.Lists.{not_both}
use Rattle.state_tree.specs.Leaves.{is_this, index_of}

-- ---- the first item that passes a test

pub position_is : {X : Type 0} (test : X → Bool) (xs : List X) → position test xs ≡ position_from test 0 xs
position_is test xs = position_from-zero test xs

from_push_other : {X : Type 0} (test : X → Bool) (i : ℕ) (xs : List X) (x : X) → test x ≡ false → position_from test i (xs ++ x ∷ []) ≡ position_from test i xs
from_push_other test i [] x fails = rw fails refl
from_push_other test i (y ∷ xs) x fails = elim (cases_Bool (test y)) [
  | inl t ↦ rw t refl
  | inr f ↦ rw f (from_push_other test (i + 1) xs x fails)
]

from_push_this : {X : Type 0} (test : X → Bool) (i : ℕ) (xs : List X) (x : X) → position_from test i xs ≡ None → test x ≡ true → position_from test i (xs ++ x ∷ []) ≡ Some (i + length xs)
from_push_this test i [] x none passes = let z : i + 0 ≡ i = omega arith in rw (passes, z) refl
from_push_this test i (y ∷ xs) x none passes = elim (cases_Bool (test y)) [
  | inl t ↦ absurd (found i (rw t at none))
  | inr f ↦ let s : i + suc (length xs) ≡ i + 1 + length xs = omega arith in rw (f, s) (from_push_this test (i + 1) xs x (rw f at none) passes)
]
  where
    found : (n : ℕ) → Some n ≡ None → ⊥
    found n e = cc

some_is_none : (n : ℕ) → Some n ≡ None → ⊥
some_is_none n e = cc

from_none : {X : Type 0} (test : X → Bool) (i : ℕ) (xs : List X) → position_from test i xs ≡ None → (k : ℕ) (d : X) → k < length xs → test (get_or xs k d) ≡ false
from_none test i [] none k d below = absurd (omega arith)
from_none test i (x ∷ xs) none zero d below = elim (cases_Bool (test x)) [
  | inl t ↦ absurd (some_is_none i (rw t at none))
  | inr f ↦ f
]
from_none test i (x ∷ xs) none (suc k) d below = elim (cases_Bool (test x)) [
  | inl t ↦ absurd (some_is_none i (rw t at none))
  | inr f ↦ from_none test (i + 1) xs (rw f at none) k d (omega arith)
]

-- ---- keys

pub is_this_itself : (key : List ℕ) → is_this key (Some key) ≡ true
is_this_itself key = (bytes_eq-Decides key key).1 refl

pub is_this_other : (key other : List ℕ) → (other ≡ key → ⊥) → is_this key (Some other) ≡ false
is_this_other key other apart = elim (cases_Bool (is_this key (Some other))) [
  | inl t ↦ absurd (apart (sym ((bytes_eq-Decides key other).0 t)))
  | inr f ↦ f
]

this_is : (key : List ℕ) (own : Option (List ℕ)) → is_this key own ≡ true → own ≡ Some key
this_is key None t = absurd (not_both false t refl)
this_is key (Some other) t = ap (λ (k : List ℕ). Some k) (sym ((bytes_eq-Decides key other).0 t))

-- ---- leaves

-- The leaf at the index of a key has this key.
pub index_found : (leaves : List Leaf) (key : List ℕ) (i : ℕ) (d : Leaf) → index_of leaves key ≡ Some i → (slice_get leaves i ≡ Some (get_or leaves i d)) × ((get_or leaves i d).key ≡ Some key)
index_found leaves key i d is =
    let own = map (λ (leaf : Leaf). leaf.key) leaves in
    let found = position-Some (is_this key) own i None is in
    let below : i < length leaves = omega (arith, found.0, length-map leaves (λ (leaf : Leaf). leaf.key)) in
    let at : get_or own i None ≡ (get_or leaves i d).key = get_or-map (λ (leaf : Leaf). leaf.key) leaves i d None below in
    (slice_get-get_or leaves i d below, this_is key (get_or leaves i d).key (rw at at found.1))

-- The key of a leaf has an index.
pub none_found : (leaves : List Leaf) (key : List ℕ) (leaf : Leaf) → index_of leaves key ≡ None → Contains leaves leaf → leaf.key ≡ Some key → ⊥
none_found leaves key leaf none (k, below, is) has =
    let own = map (λ (leaf : Leaf). leaf.key) leaves in
    let f = from_none (is_this key) 0 own (sym (position_is (is_this key) own) ∙ none) k None (omega (arith, length-map leaves (λ (leaf : Leaf). leaf.key))) in
    let at : get_or own k None ≡ leaf.key = get_or-map (λ (leaf : Leaf). leaf.key) leaves k leaf None below ∙ ap (λ (l : Leaf). l.key) is in
    not_both (is_this key (Some key)) (is_this_itself key) (rw (at ∙ has) at f)

pub index_other : (own : List (Option (List ℕ))) (key other : List ℕ) → (key ≡ other → ⊥) → position (is_this other) (own ++ Some key ∷ []) ≡ position (is_this other) own
index_other own key other apart = position_is (is_this other) (own ++ Some key ∷ []) ∙ from_push_other (is_this other) 0 own (Some key) (is_this_other other key apart) ∙ sym (position_is (is_this other) own)

pub index_this : (own : List (Option (List ℕ))) (key : List ℕ) → position (is_this key) own ≡ None → position (is_this key) (own ++ Some key ∷ []) ≡ Some (length own)
index_this own key none = position_is (is_this key) (own ++ Some key ∷ []) ∙ from_push_this (is_this key) 0 own (Some key) (sym (position_is (is_this key) own) ∙ none) (is_this_itself key) ∙ ap (λ (n : ℕ). Some n) zero_plus
  where
    zero_plus : 0 + length own ≡ length own
    zero_plus = omega arith

pub equal_or_not : (a b : List ℕ) → (a ≡ b) ⊎ (a ≢ b)
equal_or_not a b = elim (cases_Bool (is_this a (Some b))) [
  | inl t ↦ inl ((bytes_eq-Decides a b).0 t)
  | inr f ↦ inr (λ e. not_both (is_this a (Some b)) (ap (λ (k : List ℕ). is_this a (Some k)) (sym e) ∙ is_this_itself a) f)
]
