-- What a map from key to place says of the items of a list.
use Rattle.std.proofs.Common.{◌≡◌, ◌==◌, ◌<◌, ◌≤◌, ℕ, zero, suc, Bool, true, false, not, cond, List}
use Rattle.std.proofs.Common.{[], ◌∷◌, ◌++◌, ◌+◌, length, get_or, set, slice_get, Option, None}
use Rattle.std.proofs.Common.{Some, is_some, refl, sym, ap, ◌∙◌, arith, inl, inr, true≢false}
use Rattle.std.specs.Prelude.{find, position, nat_lt}
use Rattle.std.specs.List.{list_any, position_or_len}
use Rattle.std.specs.BTreeMap.{BTreeMap, get}
use Rattle.std.specs.Option.{option_map, option_or}
use Rattle.std.specs.Ordering.{nat_cmp, is_eq}
use Rattle.std.specs.Cmp.Lexicographic.{pointwise, slice_cmp, bytes_decides}
use Rattle.std.proofs.lemmas.Bool.{cases_lt, lt-ltb, le-ltb}
use Rattle.std.proofs.lemmas.Map.Text.{is_eq-slice_cmp}
use Rattle.std.proofs.lemmas.List.{length-set}
use Rattle.std.proofs.lemmas.List.Folds.{find_at, list_any_at, list_any_none, position_or_len-set}
use Rattle.std.proofs.lemmas.List.Sums.{fails_before_first, passes_at_first}
use Rattle.std.proofs.lemmas.List.Quantifiers.{position-Some}
use Rattle.dep_capture.specs.Keyed.{place_of, has_key, ArePlaces}

module _ {X : Type 0} (p : X → Bool) where
  inside : (xs : List X) → position_or_len p xs < length xs → position p xs
      ≡ Some (position_or_len p xs)
  inside xs e = ap (λ b. cond b (Some (position_or_len p xs)) None)
      (lt-ltb (position_or_len p xs) (length xs) e)

  outside : (xs : List X) → length xs ≤ position_or_len p xs → position p xs ≡ None
  outside xs e = ap (λ b. cond b (Some (position_or_len p xs)) None)
      (le-ltb (position_or_len p xs) (length xs) e)

  -- the item at a place that may be none
  abbrev pub item_at : List X → Option ℕ → Option X
  item_at xs None = None
  item_at xs (Some place) = slice_get xs place

  past : (xs : List X) (i : ℕ) → length xs ≤ i → slice_get xs i ≡ None
  past [] i e = refl
  past (x ∷ xs) zero e = absurd (omega (arith, e))
  past (x ∷ xs) (suc i) e = past xs i (omega (arith, e))

  pub found_at : (xs : List X) → item_at xs (position p xs) ≡ find p xs
  found_at xs = elim (cases_lt (position_or_len p xs) (length xs)) [
    | inl e ↦ ap (item_at xs) (inside xs e) ∙ sym (find_at p xs)
    | inr e ↦ ap (item_at xs) (outside xs e) ∙ sym (past xs (position_or_len p xs) e)
        ∙ sym (find_at p xs)
  ]

  pub is_there : (xs : List X) → is_some (position p xs) ≡ list_any p xs
  is_there [] = refl
  is_there (x ∷ xs) = elim (cases_lt (position_or_len p (x ∷ xs)) (length (x ∷ xs))) [
    | inl e ↦ ap is_some (inside (x ∷ xs) e)
        ∙ sym (list_any_at p (x ∷ xs) (position_or_len p (x ∷ xs)) x e
        (passes_at_first p (x ∷ xs) x e))
    | inr e ↦ ap is_some (outside (x ∷ xs) e)
        ∙ sym (list_any_none p (x ∷ xs)
        (λ k d within. fails_before_first p (x ∷ xs) k d (omega (arith, e, within))))
  ]

  none_of : (o : Option ℕ) → is_some o ≡ false → o ≡ None
  none_of None e = refl
  none_of (Some i) e = absurd (true≢false e)

  -- what is not there has no place
  pub not_there : (xs : List X) → list_any p xs ≡ false → position p xs ≡ None
  not_there xs e = none_of (position p xs) (is_there xs ∙ e)

  pub there_not : (xs : List X) → position p xs ≡ None → list_any p xs ≡ false
  there_not xs e = sym (is_there xs) ∙ ap is_some e

  -- ---- one item more, after the others

  one_on : (a n : ℕ) → cond (nat_lt (1 + a) (suc n)) (Some (1 + a)) None
      ≡ option_map suc (cond (nat_lt a n) (Some a) None)
  one_on a n = elim (cases_lt a n) [
    | inl e ↦ ap (λ b. cond b (Some (1 + a)) None) (lt-ltb (1 + a) (suc n) (omega (arith, e)))
        ∙ next ∙ ap (λ b. option_map suc (cond b (Some a) None)) (sym (lt-ltb a n e))
    | inr e ↦ ap (λ b. cond b (Some (1 + a)) None) (le-ltb (1 + a) (suc n) (omega (arith, e)))
        ∙ ap (λ b. option_map suc (cond b (Some a) None)) (sym (le-ltb a n e))
  ]
    where
      same : 1 + a ≡ suc a
      same = omega arith

      next : Some (1 + a) ≡ Some (suc a)
      next = ap Some same

  first_or : (b : Bool) (a n : ℕ)
      → cond (nat_lt (cond (not b) (1 + a) 0) (suc n)) (Some (cond (not b) (1 + a) 0)) None
      ≡ cond b (Some 0) (option_map suc (cond (nat_lt a n) (Some a) None))
  first_or true a n = ap (λ b. cond b (Some 0) None) (lt-ltb 0 (suc n) (omega arith))
  first_or false a n = one_on a n

  in_order : (x : X) (xs : List X) → position p (x ∷ xs)
      ≡ cond (p x) (Some 0) (option_map suc (position p xs))
  in_order x xs = first_or (p x) (position_or_len p xs) (length xs)

  after : (b c : Bool) (o : Option ℕ) (n : ℕ)
      → cond b (Some 0) (option_map suc (option_or o (cond c (Some n) None)))
      ≡ option_or (cond b (Some 0) (option_map suc o)) (cond c (Some (suc n)) None)
  after true c o n = refl
  after false c (Some i) n = refl
  after false true None n = refl
  after false false None n = refl

  pub placed_more : (xs : List X) (x : X) → position p (xs ++ x ∷ [])
      ≡ option_or (position p xs) (cond (p x) (Some (length xs)) None)
  placed_more [] x = in_order x []
  placed_more (y ∷ xs) x =
      in_order y (xs ++ x ∷ [])
      ∙ ap (λ o. cond (p y) (Some 0) (option_map suc o)) (placed_more xs x)
      ∙ after (p y) (p x) (position p xs) (length xs)
      ∙ ap (λ o. option_or o (cond (p x) (Some (suc (length xs))) None)) (sym (in_order y xs))

chosen : (b : Bool) (o : Option ℕ) (n : ℕ) → (b ≡ true → o ≡ None) → cond b (Some n) o
    ≡ option_or o (cond b (Some n) None)
chosen true o n free = sym (ap (λ r. option_or r (Some n)) (free refl))
chosen false None n free = refl
chosen false (Some i) n free = refl

module _ {X : Type 0} (key_of : X → List ℕ) where
  -- the item of a new key has the last place, and the others have those that they had
  pub places_more : (places new : BTreeMap (List ℕ) ℕ) (xs : List X) (x : X)
      → ArePlaces key_of places xs → has_key key_of xs (key_of x) ≡ false
      → ((other : List ℕ) → get (slice_cmp nat_cmp) new other
      ≡ cond (is_eq (slice_cmp nat_cmp (key_of x) other)) (Some (length xs))
      (get (slice_cmp nat_cmp) places other))
      → ArePlaces key_of new (xs ++ x ∷ [])
  places_more places new xs x old free updated other =
      updated other
      ∙ (λ i. cond (is_eq-slice_cmp (key_of x) other i) (Some (length xs)) (old other i))
      ∙ chosen (pointwise ◌==◌ (key_of x) other) (place_of key_of xs other) (length xs)
      (λ same. sym (ap (place_of key_of xs) ((bytes_decides (key_of x) other).0 same))
      ∙ not_there (λ item. pointwise ◌==◌ (key_of item) (key_of x)) xs free)
      ∙ sym (placed_more (λ item. pointwise ◌==◌ (key_of item) other) xs x)

  -- an item in the place of one of its key leaves all places as they are
  pub places_stay : (places : BTreeMap (List ℕ) ℕ) (xs : List X) (x : X) (i : ℕ)
      → ArePlaces key_of places xs → place_of key_of xs (key_of x) ≡ Some i
      → ArePlaces key_of places (set xs i x)
  places_stay places xs x i old at other =
      let found = position-Some (λ item. pointwise ◌==◌ (key_of item) (key_of x)) xs i x at in
      let same = (bytes_decides (key_of (get_or xs i x)) (key_of x)).0 found.1 in
      let first = position_or_len-set (λ item. pointwise ◌==◌ (key_of item) other) xs i x x
      (ap (λ key. pointwise ◌==◌ key other) (sym same)) in
      old other ∙ sym (λ j. cond (nat_lt (first j) (length-set xs i x j)) (Some (first j)) None)
