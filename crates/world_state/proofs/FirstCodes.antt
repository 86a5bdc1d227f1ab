-- The code of a name among the first of some codes, by its index among all.
use Rattle.std.proofs.Common.{◌≡◌, ◌+◌, ◌<◌, ◌≤◌, ◌||◌, ℕ, zero, suc, List, [], ◌∷◌, ◌++◌, take, drop, position, Bool, true, false, cond, nat_lt, Option, None, Some, is_some, true≢false, refl, sym, ap, ◌∙◌, inl, inr, arith, lt-ltb, le-ltb}
use Rattle.std.specs.List.{position_from}
use Rattle.std.specs.Map.{lookup, keys_of}
use Rattle.std.proofs.lemmas.Bool.{cases_Bool}
use Rattle.std.proofs.lemmas.Iterator.Adapters.{position_from-zero}
use Rattle.indexmap.specs.IndexMap.{IndexMap, insert_entry}
use Rattle.indexmap.proofs.CallerLemmas.{insert_entry-new}

none_of : {A : Type 0} (o : Option A) → is_some o ≡ false → o ≡ None
none_of None e = refl
none_of (Some x) e = absurd (true≢false e)

-- what is found, if its index is below the bound
abbrev pub below : {X : Type 0} → ℕ → Option ℕ → Option X → Option X
below bound None found = None
below bound (Some index) found = cond (nat_lt index bound) found None

module _ {K X : Type 0} (test : K → Bool) where
  none_below : (keys : List K) (bound i : ℕ) (found : Option X) → bound ≤ i
      → below bound (position_from test i keys) found ≡ None
  none_below [] bound i found h = refl
  none_below (key ∷ keys) bound i found h = elim (cases_Bool (test key)) [
    | inl t ↦ rw t (ap (λ b. cond b found None) (le-ltb i bound h))
    | inr f ↦ rw f (none_below keys bound (i + 1) found (omega (arith, h)))
  ]

  from : (entries : List (K × X)) (n i : ℕ)
      → lookup test (take n entries) ≡ below (i + n) (position_from test i (keys_of entries))
      (lookup test entries)
  from [] zero i = refl
  from [] (suc n) i = refl
  from (entry ∷ entries) zero i = sym
      (none_below (keys_of (entry ∷ entries)) (i + 0) i (lookup test (entry ∷ entries))
      (omega arith))
  from (entry ∷ entries) (suc n) i = elim (cases_Bool (test entry.0)) [
    | inl t ↦ rw t (ap (λ b. cond b (Some entry.1) None) (sym (lt-ltb i (i + suc n) (omega arith))))
    | inr f ↦
        let same : i + 1 + n ≡ i + suc n = omega arith in
        rw f (from entries n (i + 1)
        ∙ ap (λ bound. below bound (position_from test (i + 1) (keys_of entries))
        (lookup test entries)) same)
  ]

  -- what is found among the first entries
  pub found_in_first : (entries : List (K × X)) (n : ℕ)
      → lookup test (take n entries) ≡ below n (position test (keys_of entries))
      (lookup test entries)
  found_in_first entries n =
      let same : 0 + n ≡ n = omega arith in
      from entries n 0 ∙ (λ j. below (same j) (sym (position_from-zero test (keys_of entries)) j)
      (lookup test entries))

  -- whether any is found, by the first entries and the others
  pub found_in_parts : (entries : List (K × X)) (n : ℕ)
      → is_some (lookup test entries) ≡
      (is_some (lookup test (take n entries)) || is_some (lookup test (drop n entries)))
  found_in_parts [] zero = refl
  found_in_parts [] (suc n) = refl
  found_in_parts (entry ∷ entries) zero = refl
  found_in_parts (entry ∷ entries) (suc n) = elim (cases_Bool (test entry.0)) [
    | inl t ↦ rw t refl
    | inr f ↦ rw f (found_in_parts entries n)
  ]

-- an entry whose key is neither among the first entries nor among the others goes last
pub added_last : {K X S : Type 0} (eq : K → K
    → Bool) (map : IndexMap K X S) (n : ℕ) (key : K) (value : X)
    → (is_some (lookup (eq key) (take n map.entries)) || is_some
    (lookup (eq key) (drop n map.entries))) ≡ false
    → insert_entry eq map.entries key value ≡ map.entries ++ (key, value) ∷ []
added_last eq map n key value free =
    insert_entry-new eq map key value
    (none_of (lookup (eq key) map.entries) (found_in_parts (eq key) map.entries n ∙ free))
