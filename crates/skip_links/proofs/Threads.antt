-- The newest row of a key, as rows are appended.
use Rattle.std.proofs.Common.{◌≡◌, ◌∙◌, ℕ, suc, ◌<◌, ◌≤◌, ◌==◌, nat_lt, Bool, ◌&&◌, List, [], ◌∷◌, ◌++◌, length, map, filter, reverse, Option, refl, sym, ap, arith, inl, inr}
use Rattle.std.specs.Prelude.{Some, None, slice_get, if◌then◌else◌, MatchOption}
use Rattle.std.specs.List.{AllByRecursion, AllPairs, find}
use Rattle.std.specs.Cmp.Lexicographic.{pointwise}
use Rattle.std.proofs.lemmas.List.{append-nil, append_assoc, reverse-append, reverse-reverse, length-reverse}
use Rattle.std.proofs.lemmas.List.Elements.{recursion_from_All}
use Rattle.std.proofs.lemmas.Bool.{cases_Bool, cases_lt, lt-ltb, le-ltb}
use Rattle.lc_base.specs.declared.row.Row.{Row}
use Rattle.lc_base.specs.History.{StandsBefore, below, newest}
use Rattle.skip_links.specs.Falling.{older_blocks}
use Rattle.skip_links.specs.Versions.{index_in_reverse, newest_index}
use Rattle.skip_links.proofs.Lists.{filter_reverse}

-- ---- their indexes

-- An index, if there is one, is below a bound.
abbrev pub IsBelow : ℕ → Option ℕ → Type 0
IsBelow bound None = Unit {0}
IsBelow bound (Some index) = index < bound

wider : (bound : ℕ) (index : Option ℕ) → IsBelow bound index → IsBelow (suc bound) index
wider bound None h = tt
wider bound (Some index) h = omega (arith, h)

index_below : (rows : List Row) (key : List ℕ) → IsBelow (length rows) (index_in_reverse rows key)
index_below [] key = tt
index_below (row ∷ rows) key = elim (cases_Bool (pointwise ◌==◌ row.key key)) [
  | inl e ↦ rw e (omega arith)
  | inr e ↦ rw e (wider (length rows) (index_in_reverse rows key) (index_below rows key))
]

pub newest_below : (rows : List Row) (key : List ℕ) → IsBelow (length rows) (newest_index rows key)
unfolding newest_index
newest_below rows key = rw (length-reverse rows) at (index_below (reverse rows) key)

-- ---- the rows before a block

none_below : (block from : ℕ) (rows : List Row) → block ≤ from → AllByRecursion (λ (row : Row). from ≤ row.block) rows → below rows block ≡ []
none_below block from [] l h = refl
none_below block from (row ∷ rows) l h = rw (le-ltb row.block block (omega (arith, l, h.0))) (none_below block from rows l h.1)

not_before : (row : Row) (rows : List Row) → AllByRecursion (λ (other : Row). StandsBefore row other) rows → AllByRecursion (λ (other : Row). row.block ≤ other.block) rows
not_before row [] h = tt
not_before row (other ∷ rows) h = (one h.0, not_before row rows h.1)
  where
    one : StandsBefore row other → row.block ≤ other.block
    one (inl less) = omega (arith, less)
    one (inr same) = omega (arith, same.0)

-- The rows before a block come first in a history.
pub below_front : (rows : List Row) (block : ℕ) → AllPairs StandsBefore rows → (rest : List Row) × (rows ≡ below rows block ++ rest)
below_front [] block h = ([], refl)
below_front (row ∷ rows) block h = elim (cases_lt row.block block) [
  | inl l ↦
      let deep = below_front rows block (λ i j d l k. h (suc i) (suc j) d (omega (arith, l)) (omega (arith, k))) in
      (deep.0, rw (lt-ltb row.block block l) (ap (λ (all : List Row). row ∷ all) deep.1))
  | inr l ↦
      let later = not_before row rows (recursion_from_All (λ (other : Row). StandsBefore row other) rows (λ j d l. h 0 (suc j) d (omega arith) (omega (arith, l)))) in
      (row ∷ rows, rw (le-ltb row.block block l, none_below block row.block rows l later) refl)
]

filter_both : {X : Type 0} (p q : X → Bool) (xs : List X) → filter (λ (x : X). p x && q x) xs ≡ filter p (filter q xs)
filter_both p q [] = refl
filter_both p q (x ∷ xs) =
    let deep = filter_both p q xs in
    elim (cases_Bool (q x)) [
      | inl f ↦ elim (cases_Bool (p x)) [
        | inl e ↦ rw (e, f, e, deep) refl
        | inr e ↦ rw (e, f, e) deep
      ]
      | inr f ↦ elim (cases_Bool (p x)) [
        | inl e ↦ rw (e, f) deep
        | inr e ↦ rw (e, f) deep
      ]
    ]

pub blocks_below : (rows : List Row) (key : List ℕ) (block : ℕ)
    → map (λ (row : Row). row.block) (filter (λ (row : Row). pointwise ◌==◌ row.key key) (reverse (below rows block))) ≡ older_blocks rows key block
blocks_below rows key block =
    ap (λ (all : List Row). map (λ (row : Row). row.block) (filter (λ (row : Row). pointwise ◌==◌ row.key key) all)) (filter_reverse (λ (row : Row). nat_lt row.block block) rows)
    ∙ sym (ap (map (λ (row : Row). row.block)) (filter_both (λ (row : Row). pointwise ◌==◌ row.key key) (λ (row : Row). nat_lt row.block block) (reverse rows)))

-- ---- with one row more

pub newest_more : (rows : List Row) (row : Row) (key : List ℕ)
    → newest_index (rows ++ row ∷ []) key ≡ (if pointwise ◌==◌ row.key key then Some (length rows) else newest_index rows key)
unfolding newest_index
newest_more rows row key =
    ap (λ (all : List Row). index_in_reverse all key) (reverse-append rows (row ∷ []))
    ∙ ap (λ (n : ℕ). if pointwise ◌==◌ row.key key then Some n else index_in_reverse (reverse rows) key) (length-reverse rows)

pub row_at : (front : List Row) (row : Row) (rest : List Row) → slice_get (front ++ row ∷ rest) (length front) ≡ Some row
row_at [] row rest = refl
row_at (x ∷ front) row rest = row_at front row rest

found_in_reverse : (rows rest : List Row) (key : List ℕ)
    → MatchOption (index_in_reverse rows key) (find (λ (row : Row). pointwise ◌==◌ row.key key) rows ≡ None)
    (λ (index : ℕ). slice_get (reverse rows ++ rest) index ≡ find (λ (row : Row). pointwise ◌==◌ row.key key) rows)
found_in_reverse [] rest key = refl
found_in_reverse (row ∷ rows) rest key =
    let split : reverse (row ∷ rows) ++ rest ≡ reverse rows ++ row ∷ rest =
    ap (λ (all : List Row). all ++ rest) (reverse-append (row ∷ []) rows) ∙ append_assoc (reverse rows) (row ∷ []) rest in
    elim (cases_Bool (pointwise ◌==◌ row.key key)) [
      | inl e ↦
          let at : slice_get (reverse rows ++ row ∷ rest) (length rows) ≡ Some row = rw (length-reverse rows) at (row_at (reverse rows) row rest) in
          rw e (ap (λ (all : List Row). slice_get all (length rows)) split ∙ at)
      | inr e ↦
          rw e (moved (reverse rows ++ row ∷ rest) (reverse (row ∷ rows) ++ rest) (index_in_reverse rows key)
          (find (λ (row : Row). pointwise ◌==◌ row.key key) rows) (sym split) (found_in_reverse rows (row ∷ rest) key))
    ]
  where
    moved : (all others : List Row) (index : Option ℕ) (found : Option Row) → all ≡ others
        → MatchOption index (found ≡ None) (λ (i : ℕ). slice_get all i ≡ found) → MatchOption index (found ≡ None) (λ (i : ℕ). slice_get others i ≡ found)
    moved all others index found e h = rw (← e) h

pub newest_found : (rows : List Row) (key : List ℕ)
    → MatchOption (newest_index rows key) (newest rows key ≡ None) (λ (index : ℕ). slice_get rows index ≡ newest rows key)
unfolding newest_index
newest_found rows key = moved (reverse (reverse rows) ++ []) rows (append-nil (reverse (reverse rows)) ∙ reverse-reverse rows) (found_in_reverse (reverse rows) [] key)
  where
    moved : (all others : List Row) → all ≡ others
        → MatchOption (newest_index rows key) (newest rows key ≡ None) (λ (i : ℕ). slice_get all i ≡ newest rows key)
        → MatchOption (newest_index rows key) (newest rows key ≡ None) (λ (i : ℕ). slice_get others i ≡ newest rows key)
    moved all others e h = rw (← e) h
