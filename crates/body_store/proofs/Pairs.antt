-- What a cache has at hand after a call was at hand before, or is what was put.
use Rattle.std.proofs.Common.{◌≡◌, ℕ, Bool, true, List, [], ◌∷◌, map, Contains, ◌⊎◌, Some, sym, ap}
use Rattle.std.proofs.Common.{◌∙◌, subst, inl, inr}
use Rattle.std.specs.Rc.{rc_slice_items}
use Rattle.std.specs.declared.rc.RcSlice.{RcSlice}
use Rattle.std.specs.Map.{lookup}
use Rattle.lru.specs.LruCache.{LruCache, lru_cache, promoted, put_entries}
use Rattle.lru.proofs.Splits.{Contains-head, Contains-tail, Contains-cons, Contains-nil}
use Rattle.lru.proofs.CallerLemmas.{Contains-lookup, Contains-promoted, Contains-put_entries}
use Rattle.body_store.specs.declared.kept.BodyIndex.{BodyIndex}
use Rattle.body_store.specs.Cached.{pairs_of}

module _ {A B : Type 0} (f : A → B) where
  pub contains_map : (xs : List A) (x : A) → Contains xs x → Contains (map f xs) (f x)
  contains_map [] x c = absurd (Contains-nil x c)
  contains_map (y ∷ xs) x c = elim (Contains-cons y xs x c) [
    | inl e ↦ subst (Contains (map f (y ∷ xs))) (ap f e) (Contains-head (f y) (map f xs))
    | inr d ↦ Contains-tail (f y) (map f xs) (f x) (contains_map xs x d)
  ]

  pub contains_of_map : (xs : List A) (y : B) → Contains (map f xs) y → (x : A) × Contains xs x
      × (f x ≡ y)
  contains_of_map [] y c = absurd (Contains-nil y c)
  contains_of_map (x ∷ xs) y c = elim (Contains-cons (f x) (map f xs) y c) [
    | inl e ↦ (x, Contains-head x xs, e)
    | inr d ↦ let on = contains_of_map xs y d in (on.0, Contains-tail x xs on.0 on.1, on.2)
  ]

abbrev Cache : Type 0 → Type 0
Cache Z = LruCache BodyIndex (RcSlice ℕ Z)

module _ {Z : Type 0} where
  abbrev pair_of : BodyIndex × RcSlice ℕ Z → ℕ × List ℕ
  pair_of pair = (pair.0.0, rc_slice_items pair.1)

  -- a lookup adds none to those at hand
  pub kept_pairs : (test : BodyIndex → Bool) (old new : Cache Z)
      → new ≡ lru_cache (promoted test old.entries) old.cap
      → (pair : ℕ × List ℕ) → Contains (pairs_of new.entries) pair
      → Contains (pairs_of old.entries) pair
  kept_pairs test old new is pair c =
      let there = contains_of_map pair_of new.entries pair c in
      let before = Contains-promoted test old.entries there.0
      (subst (λ (l : Cache Z). Contains l.entries there.0) is there.1) in
      subst (Contains (pairs_of old.entries)) there.2
      (contains_map pair_of old.entries there.0 before)

  -- what a lookup finds was at hand
  pub found_pair : (test : BodyIndex → Bool) (old : Cache Z) (id : BodyIndex) (body : RcSlice ℕ Z)
      → ((k : BodyIndex) → test k ≡ true → k.0 ≡ id.0) → Some body ≡ lookup test old.entries
      → Contains (pairs_of old.entries) (id.0, rc_slice_items body)
  found_pair test old id body same is =
      let there = Contains-lookup test old.entries body (sym is) in
      subst (λ (n : ℕ). Contains (pairs_of old.entries) (n, rc_slice_items body))
      (same there.0 there.2) (contains_map pair_of old.entries (there.0, body) there.1)

  -- after one is put, each at hand is that one or was at hand before
  pub put_pairs : (eq : BodyIndex → BodyIndex → Bool) (old new : Cache Z) (id : BodyIndex)
      (body : RcSlice ℕ Z) → ((a b : BodyIndex) → eq a b ≡ true → a.0 ≡ b.0)
      → new ≡ lru_cache (put_entries eq old id body) old.cap
      → (pair : ℕ × List ℕ) → Contains (pairs_of new.entries) pair
      → Contains (pairs_of old.entries) pair ⊎ (pair ≡ (id.0, rc_slice_items body))
  put_pairs eq old new id body same is pair c =
      let there = contains_of_map pair_of new.entries pair c in
      elim (Contains-put_entries eq old id body there.0
      (subst (λ (l : Cache Z). Contains l.entries there.0) is there.1)) [
        | inl before ↦ inl (subst (Contains (pairs_of old.entries)) there.2
            (contains_map pair_of old.entries there.0 before))
        | inr put ↦ inr (sym there.2
            ∙ ap (λ (b : RcSlice ℕ Z). (there.0.0.0, rc_slice_items b)) put.0
            ∙ ap (λ (n : ℕ). (n, rc_slice_items body))
            (elim put.1 [
              | inl e ↦ ap (λ (k : BodyIndex). k.0) e
              | inr f ↦ sym
                  (same id there.0.0 f.2)
            ]))
      ]
