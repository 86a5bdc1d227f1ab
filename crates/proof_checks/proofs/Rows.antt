-- The latest version up to a block is found as the newest of all, or as the last one before a later
-- block.
use Rattle.std.proofs.Common.{◌≡◌, ◌∙◌, ℕ, ◌<◌, ◌≤◌, Bool, true, ◌&&◌, ◌==◌, nat_lt, nat_le, List, [], ◌∷◌, Some, None, refl, sym, ap, arith, filter, reverse, inl, inr}
use Rattle.std.specs.List.{find}
use Rattle.std.specs.Cmp.Lexicographic.{pointwise}
use Rattle.std.proofs.lemmas.Bool.{cases_Bool, and_parts, and_from, lt-ltb, leb-true}
use Rattle.std.proofs.lemmas.Option.{none-some, same_Some}
use Rattle.lc_base.specs.declared.row.Row.{Row}
use Rattle.lc_base.specs.History.{below, newest, is_version, latest}
use Rattle.root_laws.proofs.Lists.{not_both, filter_reverse, found_passes}
use Rattle.root_laws.proofs.Keys.{same_key}

-- ---- what is found

-- The first item that passes a test is the first that passes a stricter one, if it passes that too.
pub find_within : {X : Type 0} (p q : X → Bool) (xs : List X) (x : X) → ((y : X) → q y ≡ true → p y ≡ true) → find p xs ≡ Some x → q x ≡ true → find q xs ≡ Some x
find_within p q [] x stricter e t = absurd (none-some x e)
find_within {X = X} p q (y ∷ xs) x stricter e t = elim (cases_Bool (p y)) [
  | inl u ↦
      let e' : Some y ≡ Some x = rw u at e in
      let same : y ≡ x = same_Some y x e' in
      let v : q y ≡ true = ap q same ∙ t in
      rw v (ap (λ (z : X). Some z) same)
  | inr u ↦
      let e' : find p xs ≡ Some x = rw u at e in
      let rest = find_within p q xs x stricter e' t in
      elim (cases_Bool (q y)) [
        | inl v ↦ absurd (not_both (p y) (stricter y v) u)
        | inr v ↦ rw v rest
      ]
]

pub none_within : {X : Type 0} (p q : X → Bool) (xs : List X) → ((y : X) → q y ≡ true → p y ≡ true) → find p xs ≡ None → find q xs ≡ None
none_within p q [] stricter e = refl
none_within {X = X} p q (y ∷ xs) stricter e = elim (cases_Bool (p y)) [
  | inl u ↦ let e' : Some y ≡ None = rw u at e in absurd (none-some y (sym e'))
  | inr u ↦
      let e' : find p xs ≡ None = rw u at e in
      let rest = none_within p q xs stricter e' in
      elim (cases_Bool (q y)) [
        | inl v ↦ absurd (not_both (p y) (stricter y v) u)
        | inr v ↦ rw v rest
      ]
]

find_in_filter : {X : Type 0} (p q : X → Bool) (xs : List X) → find p (filter q xs) ≡ find (λ x. q x && p x) xs
find_in_filter p q [] = refl
find_in_filter p q (x ∷ xs) = let rest = find_in_filter p q xs in elim (cases_Bool (q x)) [
  | inl t ↦ elim (cases_Bool (p x)) [
    | inl u ↦ rw (t, u) refl
    | inr u ↦ rw (t, u) rest
  ]
  | inr t ↦ rw t rest
]

-- ---- the latest version

-- The latest version is the newest one if the newest one's block is early enough.
pub latest_is_newest : (rows : List Row) (key : List ℕ) (at : ℕ) (row : Row) → newest rows key ≡ Some row → nat_le row.block at ≡ true → latest rows key at ≡ Some row
latest_is_newest rows key at row e t =
    find_within (λ (r : Row). pointwise ◌==◌ r.key key) (is_version key at) (reverse rows) row
    (λ r u. (and_parts (pointwise ◌==◌ r.key key) (nat_le r.block at) u).0) e (and_from (pointwise ◌==◌ row.key key) (nat_le row.block at) (found_passes (λ (r : Row). pointwise ◌==◌ r.key key) (reverse rows) row e) t)

pub latest_key : (rows : List Row) (key : List ℕ) (at : ℕ) (row : Row) → latest rows key at ≡ Some row → row.key ≡ key
latest_key rows key at row e = same_key row.key key (and_parts (pointwise ◌==◌ row.key key) (nat_le row.block at) (found_passes (is_version key at) (reverse rows) row e)).0

pub latest_none : (rows : List Row) (key : List ℕ) (at : ℕ) → newest rows key ≡ None → latest rows key at ≡ None
latest_none rows key at e =
    none_within (λ (r : Row). pointwise ◌==◌ r.key key) (is_version key at) (reverse rows) (λ r u. (and_parts (pointwise ◌==◌ r.key key) (nat_le r.block at) u).0) e

-- The versions of the key before a block.
is_before : List ℕ → ℕ → Row → Bool
is_before key block row = nat_lt row.block block && pointwise ◌==◌ row.key key

newest_before : (rows : List Row) (key : List ℕ) (block : ℕ) → newest (below rows block) key ≡ find (is_before key block) (reverse rows)
unfolding is_before
newest_before rows key block =
    ap (find (λ (row : Row). pointwise ◌==◌ row.key key)) (filter_reverse (λ (row : Row). nat_lt row.block block) rows)
    ∙ find_in_filter (λ (row : Row). pointwise ◌==◌ row.key key) (λ (row : Row). nat_lt row.block block) (reverse rows)

early_is_before : (key : List ℕ) (at block : ℕ) → at < block → (row : Row) → is_version key at row ≡ true → is_before key block row ≡ true
unfolding is_before
early_is_before key at block l row t =
    let parts = and_parts (pointwise ◌==◌ row.key key) (nat_le row.block at) t in
    let low : row.block ≤ at = leb-true row.block at parts.1 in
    and_from (nat_lt row.block block) (pointwise ◌==◌ row.key key) (lt-ltb row.block block (omega (arith, low, l))) parts.0

-- The latest version is the last one before a later block, if that version's block is early enough.
pub latest_before : (rows : List Row) (key : List ℕ) (at block : ℕ) (row : Row) → at < block → newest (below rows block) key ≡ Some row → pointwise ◌==◌ row.key key ≡ true → nat_le row.block at ≡ true → latest rows key at ≡ Some row
latest_before rows key at block row l e k t =
    find_within (is_before key block) (is_version key at) (reverse rows) row (early_is_before key at block l) (sym (newest_before rows key block) ∙ e) (and_from (pointwise ◌==◌ row.key key) (nat_le row.block at) k t)

pub latest_none_before : (rows : List Row) (key : List ℕ) (at block : ℕ) → at < block → newest (below rows block) key ≡ None → latest rows key at ≡ None
latest_none_before rows key at block l e = none_within (is_before key block) (is_version key at) (reverse rows) (early_is_before key at block l) (sym (newest_before rows key block) ∙ e)

-- ---- rows that were kept
