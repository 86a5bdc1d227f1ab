-- The dependencies of a lawful row are on rows before it, and no row before it depends on it.
use Rattle.std.proofs.Common.{◌≡◌, ◌==◌, ℕ, zero, suc, ◌<◌, ◌≤◌, nat_lt, List, [], ◌∷◌, ◌++◌, nat_le}
use Rattle.std.proofs.Common.{reverse, slice_get, Bool, true, Option, None, Some, refl, ap, subst}
use Rattle.std.proofs.Common.{inl, inr, arith}
use Rattle.std.specs.List.{find, All, AllPairs}
use Rattle.std.specs.Option.{IsSomeAnd}
use Rattle.std.specs.Cmp.Lexicographic.{pointwise}
use Rattle.std.proofs.lemmas.Bool.{cases_Bool, and_parts}
use Rattle.std.proofs.lemmas.List.Elements.{All-filter}
use Rattle.std.proofs.lemmas.List.Sorted.{All-permutation, IsPermutation-reverse}
use Rattle.std.proofs.lemmas.Option.{same_Some, none-some, slice_get-get_or, slice_get_within}
use Rattle.std.proofs.lemmas.Option.{get_or_from_slice_get}
use Rattle.std.proofs.lemmas.Slice.Eq.{bytes_eq-Decides}
use Rattle.lc_base.specs.declared.row.Row.{Row}
use Rattle.lc_base.specs.declared.row.Dep.{Dep}
use Rattle.lc_base.specs.History.{IsLawful, HasLawfulDeps, IsRecordedFrom, StandsBefore, below, is_version, latest}
use Rattle.lc_base.specs.History.{newest}
use Rattle.plain_rows.specs.Places.{StandsAt}
use Rattle.plain_rows.specs.Users.{IsUnused}
use Rattle.plain_rows.proofs.IndexParts.{holds_of_found}
use Rattle.plain_rows.proofs.Later.{depends_on_none, dep_is_older}

pub found_passes : {A : Type 0} (p : A → Bool) (xs : List A) (y : A) → find p xs ≡ Some y
    → p y ≡ true
found_passes p [] y e = absurd (none-some y e)
found_passes p (x ∷ xs) y e = elim (cases_Bool (p x)) [
  | inl t ↦ let some : Some x ≡ Some y = rw t at e in rw (← same_Some x y some) t
  | inr f ↦ found_passes p xs y (rw f at e)
]

Stands : List Row → Row → Type 0
Stands rows row = (index : ℕ) × (slice_get rows index ≡ Some row)

-- no row of a block up to a row's depends on the row
pub is_unused : (all rows : List Row) (row : Row) → IsLawful all
    → ((i : ℕ) (r : Row) → slice_get rows i ≡ Some r → HasLawfulDeps all r × (r.block ≤ row.block))
    → IsUnused rows row
is_unused all rows row lawful low i r at = let h = low i r at in depends_on_none all r row.key
    row.block h.0 h.1

not_later : (a b : Row) → StandsBefore a b → b.block < a.block → ⊥
not_later a b (inl less) l = omega (arith, less, l)
not_later a b (inr same) l = omega (arith, same.0, l)

in_front : (rows rest : List Row) (row version : Row) (j : ℕ)
    → AllPairs StandsBefore (rows ++ row ∷ rest) → slice_get (rows ++ row ∷ rest) j ≡ Some version
    → version.block < row.block →
    slice_get rows j ≡ Some version
in_front [] rest row version zero ordered at low = let same : row ≡ version = same_Some row version
    at in absurd (omega (arith, ap (λ (r : Row). r.block) same, low))
in_front [] rest row version (suc j) ordered at low =
    let m = slice_get_within rest j version at in
    let here = get_or_from_slice_get rest j version row at in
    absurd (not_later row version
    (subst (StandsBefore row) here (ordered 0 (suc j) row (omega arith) (omega (arith, m))))
    low)
in_front (x ∷ xs) rest row version zero ordered at low = at
in_front (x ∷ xs) rest row version (suc j) ordered at low =
    in_front xs rest row version j
    (λ a b d l m. ordered (suc a) (suc b) d (omega (arith, l)) (omega (arith, m))) at low

pub dep_stands : (rows rest : List Row) (row : Row) (dep : Dep) → IsLawful (rows ++ row ∷ rest)
    → IsRecordedFrom (rows ++ row ∷ rest) row dep → (index : ℕ) × StandsAt rows dep index
unfolding Stands
dep_stands rows rest row dep lawful recorded = go (newest (below all row.block) dep.key) refl
    recorded
  where
    all : List Row
    all = rows ++ row ∷ rest

    go : (o : Option Row) → newest (below (rows ++ row ∷ rest) row.block) dep.key ≡ o
        → IsSomeAnd o (λ (version : Row). version.block ≡ dep.block) → (index : ℕ)
        × StandsAt rows dep index
    go None e h = absurd h
    go (Some version) e h =
        let whole = rows ++ row ∷ rest in
        let key_is = λ (r : Row). pointwise ◌==◌ r.key dep.key in
        let older = reverse (below whole row.block) in
        let keys : version.key ≡ dep.key = (bytes_eq-Decides version.key dep.key).0
        (found_passes key_is older version e) in
        let low : version.block < row.block = omega (arith, h, dep_is_older whole row dep recorded)
        in
        let every : All (Stands whole) whole = λ k d l. (k, slice_get-get_or whole k d l) in
        let among : All (Stands whole) older = All-permutation (Stands whole)
        (below whole row.block) older (IsPermutation-reverse (below whole row.block))
        (All-filter (λ (r : Row). nat_lt r.block row.block) (Stands whole) whole every) in
        let place : Stands whole version = holds_of_found (Stands whole) key_is older version among
        e in (
          place.0,
          (
            version,
            in_front rows rest row version place.0 lawful.ordered place.1 low,
            keys,
            h,
          ),
        )

-- a version that is found is one of the key
pub of_key : (rows : List Row) (key : List ℕ) (at : ℕ) (row : Row) → latest rows key at ≡ Some row
    → row.key ≡ key
of_key rows key at row is =
    (bytes_eq-Decides row.key key).0
    (and_parts (pointwise ◌==◌ row.key key) (nat_le row.block at)
    (found_passes (is_version key at) (reverse rows) row is)).0
