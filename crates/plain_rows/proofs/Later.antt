-- What was derived from a version is in later blocks.
use Rattle.std.proofs.Common.{◌≡◌, ℕ, zero, suc, ◌<◌, ◌≤◌, Bool, true, false, ◌&&◌, ◌==◌, nat_lt}
use Rattle.std.proofs.Common.{nat_le, List, [], ◌∷◌, length, get_or, drop, filter, reverse, Option}
use Rattle.std.proofs.Common.{Some, None, refl, inl, inr, arith}
use Rattle.std.specs.List.{list_any, All, AllByRecursion, AllWithin}
use Rattle.std.specs.List.Sorted.{IsNonDecreasingBy, IsPartitionPoint}
use Rattle.std.specs.Option.{IsSomeAnd}
use Rattle.std.specs.Cmp.Lexicographic.{pointwise}
use Rattle.std.proofs.lemmas.Bool.{and_right, or_from, ne_eqb, ltb-true, leb-true, cases_lt}
use Rattle.std.proofs.lemmas.List.Elements.{All-weaker, recursion_from_All, filter_passes}
use Rattle.std.proofs.lemmas.List.Sorted.{All-permutation, IsPermutation-reverse}
use Rattle.lc_base.specs.declared.row.Row.{Row}
use Rattle.lc_base.specs.declared.row.Dep.{Dep}
use Rattle.lc_base.specs.History.{IsLawful, HasLawfulDeps, IsRecordedFrom, StandsBefore, below}
use Rattle.lc_base.specs.History.{newest, depends_on}
use Rattle.plain_rows.proofs.IndexParts.{holds_of_found}

-- ---- a dependency is older than its row

below_is_below : (rows : List Row) (block : ℕ)
    → All (λ (row : Row). row.block < block) (reverse (below rows block))
below_is_below rows block =
    let passed : All (λ (row : Row). nat_lt row.block block ≡ true) (below rows block) =
    filter_passes (λ (row : Row). nat_lt row.block block) rows in
    let low : All (λ (row : Row). row.block < block) (below rows block) =
    All-weaker (λ (row : Row). nat_lt row.block block ≡ true) (λ (row : Row). row.block < block)
    (λ row t. ltb-true row.block block t) (below rows block) passed in
    All-permutation (λ (row : Row). row.block < block) (below rows block)
    (reverse (below rows block)) (IsPermutation-reverse (below rows block)) low

pub dep_is_older : (rows : List Row) (row : Row) (dep : Dep) → IsRecordedFrom rows row dep
    → dep.block < row.block
dep_is_older rows row dep recorded = go (newest (below rows row.block) dep.key) refl recorded
  where
    go : (o : Option Row) → newest (below rows row.block) dep.key ≡ o
        → IsSomeAnd o (λ (version : Row). version.block ≡ dep.block) → dep.block < row.block
    go None e h = absurd h
    go (Some version) e h =
        let low = holds_of_found (λ (r : Row). r.block < row.block)
        (λ (r : Row). pointwise ◌==◌ r.key dep.key) (reverse (below rows row.block)) version
        (below_is_below rows row.block) e in
        omega (arith, h, low)

none_on : (deps : List Dep) (key : List ℕ) (block top : ℕ) → top ≤ block
    → AllByRecursion (λ (dep : Dep). dep.block < top) deps
    → list_any (λ (dep : Dep). pointwise ◌==◌ dep.key key && dep.block == block) deps ≡ false
none_on [] key block top low all = refl
none_on (dep ∷ deps) key block top low all =
    let older = all.0 in
    let apart : (dep.block == block) ≡ false = ne_eqb dep.block block
    (λ e. omega (arith, e, older, low)) in
    or_from (pointwise ◌==◌ dep.key key && dep.block == block)
    (list_any (λ (d : Dep). pointwise ◌==◌ d.key key && d.block == block) deps)
    (and_right (pointwise ◌==◌ dep.key key) (dep.block == block) apart)
    (none_on deps key block top low all.1)

-- a row of a block up to this one depends on no version in it
pub depends_on_none : (rows : List Row) (row : Row) (key : List ℕ) (block : ℕ)
    → HasLawfulDeps rows row → row.block ≤ block → depends_on key block row ≡ false
depends_on_none rows row key block deps low =
    none_on row.deps key block row.block low
    (recursion_from_All (λ (dep : Dep). dep.block < row.block) row.deps
    (All-weaker (IsRecordedFrom rows row) (λ (dep : Dep). dep.block < row.block)
    (dep_is_older rows row) row.deps deps.newest))

-- ---- the rows from an index on

-- what passes no test before an index is left out by none
filter_from : {X : Type 0} (p : X → Bool) (xs : List X) (n : ℕ)
    → AllWithin (λ x. p x ≡ false) xs 0 n → filter p (drop n xs) ≡ filter p xs
filter_from p xs zero off = refl
filter_from p [] (suc n) off = refl
filter_from p (x ∷ xs) (suc n) off =
    let first : p x ≡ false = off 0 x (omega arith) (omega arith) in
    rw first (filter_from p xs n (λ k d l m. off (suc k) d (omega arith) (omega (arith, m))))

pub blocks_rise : (rows : List Row) → IsLawful rows
    → IsNonDecreasingBy (λ (row : Row). row.block) rows
blocks_rise rows lawful i j d l k = elim (cases_lt i j) [
  | inl less ↦ in_order (get_or rows i d) (get_or rows j d) (lawful.ordered i j d less k)
  | inr more ↦ let same : i ≡ j = omega (arith, l, more) in rw same (omega arith)
]
  where
    in_order : (a b : Row) → StandsBefore a b → a.block ≤ b.block
    in_order a b (inl less) = omega (arith, less)
    in_order a b (inr same) = omega (arith, same.0)

pub uses_are_later : (rows : List Row) (block first : ℕ) (key : List ℕ) → IsLawful rows
    → first ≤ length rows
    → IsPartitionPoint (λ (row : Row). nat_le row.block block ≡ true)
    (λ (row : Row). nat_le row.block block ≡ false) rows first
    → filter (depends_on key block) (drop first rows) ≡ filter (depends_on key block) rows
uses_are_later rows block first key lawful bound point =
    filter_from (depends_on key block) rows first
    (λ k d l m. depends_on_none rows _ key block
    (lawful.lawful_deps k d (omega (arith, m, bound))) (leb-true _ block (point.0 k d l m)))
