-- No version is looked at twice, so few are looked at.
use Rattle.std.proofs.Common.{◌≡◌, ◌∙◌, ℕ, zero, suc, ◌+◌, ◌≤◌, ◌&&◌, ◌==◌, Bool, false}
use Rattle.std.proofs.Common.{nat_lt, nat_le, List, [], ◌∷◌, length, map, filter, reverse, Option}
use Rattle.std.proofs.Common.{Some, None, sym, ap, ap₂, subst, arith, inl, inr}
use Rattle.std.specs.Option.{option_map}
use Rattle.std.specs.Cmp.Lexicographic.{pointwise}
use Rattle.std.proofs.lemmas.Bool.{cases_Bool, cases_lt, and_right, lt-ltb, le-ltb, le-leb}
use Rattle.std.proofs.lemmas.List.{length-reverse}
use Rattle.lc_base.specs.declared.row.Row.{Row}
use Rattle.lc_base.specs.History.{newest}
use Rattle.skip_links.specs.Links.{links}
use Rattle.skip_links.specs.Paths.{next_block, path_from, path, blocks_of_key}
use Rattle.skip_links.proofs.Bound.{next, walk, late}
use Rattle.skip_links.proofs.PathTowers.{next_plain, next_keeps}
use Rattle.skip_links.proofs.Walks.{over_is_walk}
use Rattle.skip_links.proofs.OverRows.{key_falls, path_of_blocks, path_short, path_none}
use Rattle.root_laws.proofs.Lists.{filter_reverse}
use Rattle.root_laws.specs.Ranges.{is_between, rows_between}
use Rattle.root_laws.specs.RangeSteps.{all_but_one, NoVersionsNoSteps, RangeStepsAreFew}
use Rattle.root_laws.specs.RangeSteps.{RangeStepsAreOfRows}
use Rattle.root_laws.proofs.UpTo.{none_at_all}

pub no_steps : NoVersionsNoSteps
no_steps rows key from to none =
    ap₂ (λ (blocks : List ℕ) (rs : List Row). length blocks + all_but_one rs)
    (path_none rows key to none) (none_at_all rows key from to none)

but_one_low : (rows : List Row) → all_but_one rows ≤ length rows
but_one_low [] = omega arith
but_one_low (row ∷ rows) = omega arith

pub few_steps : RangeStepsAreFew
few_steps rows key from to version lawful is fits =
    let short = path_short rows key to version lawful is fits in
    let low = but_one_low (rows_between rows key from to) in
    omega (arith, short, low)

-- ---- versions on the path

-- A path is no longer than the number of turns.
path_low : (n : ℕ) (links_of : ℕ → List ℕ) (at : ℕ) (block : Option ℕ)
    → length (path_from n links_of at block) ≤ n
unfolding path_from
path_low zero links_of at block = omega arith
path_low (suc n) links_of at None = omega arith
path_low (suc n) links_of at (Some block) =
    let deep = path_low n links_of at (next_block links_of at block) in
    omega (arith, deep)

abbrev blocks_after : ℕ → List ℕ → List ℕ
blocks_after t blocks = filter (λ (block : ℕ). nat_lt t block) blocks

one_less : (t k block : ℕ) (older : List ℕ) → length (blocks_after t (block ∷ older)) ≤ k
    → length (blocks_after t older) ≤ k
one_less t k block older few = elim (cases_Bool (nat_lt t block)) [
  | inl above ↦
      let few' : suc (length (blocks_after t older)) ≤ k = rw above at few in
      omega (arith, few')
  | inr low ↦ let few' : length (blocks_after t older) ≤ k = rw low at few in few'
]

next_fewer : (t block : ℕ) (older : List ℕ)
    → length (blocks_after t (next t 32 block older)) ≤ length (blocks_after t older)
next_fewer t block older =
    subst (λ (blocks : List ℕ). length (blocks_after t blocks) ≤ length (blocks_after t older))
    (next_plain t 32 block older)
    (next_keeps (λ (b : ℕ). b)
    (λ (blocks : List ℕ). length (blocks_after t blocks) ≤ length (blocks_after t older))
    (λ first rest few. one_less t (length (blocks_after t older)) first rest few) t 32 block older
    (omega arith))

-- All versions on a path but the last are after t.
walk_high : (n t : ℕ) (blocks : List ℕ)
    → length (walk n t blocks) ≤ length (blocks_after t blocks) + 1
unfolding walk
walk_high zero t blocks = omega arith
walk_high (suc n) t [] = omega arith
walk_high (suc n) t (block ∷ older) = elim (cases_lt t block) [
  | inl above ↦
      let deep = walk_high n t (next t 32 block older) in
      let fewer = next_fewer t block older in
      rw (late block t above, lt-ltb t block above) (omega (arith, deep, fewer))
  | inr low ↦ rw (le-leb block t low, le-ltb t block low) (omega arith)
]

-- ---- rows

module _ (key : List ℕ) (from to : ℕ) where
  abbrev of_key : Row → Bool
  of_key row = pointwise ◌==◌ row.key key

  abbrev block_of : Row → ℕ
  block_of row = row.block

  -- The versions after the blocks and those between them are different rows.
  apart : (rows : List Row) → length (blocks_after to (map block_of (filter of_key rows)))
      + length (filter (is_between key from to) rows) ≤ length rows
  apart [] = omega arith
  apart (row ∷ rows) =
      let deep = apart rows in
      elim (cases_Bool (of_key row)) [
        | inr f ↦ rw f (omega (arith, deep))
        | inl t ↦ elim (cases_lt to row.block) [
          | inl above ↦
              let out : (nat_le from row.block && nat_le row.block to) ≡ false =
              and_right (nat_le from row.block) (nat_le row.block to) (late row.block to above) in
              rw (t, lt-ltb to row.block above, out) (omega (arith, deep))
          | inr low ↦ elim (cases_Bool (nat_le from row.block && nat_le row.block to)) [
            | inl u ↦ rw (t, le-ltb to row.block low, u) (omega (arith, deep))
            | inr u ↦ rw (t, le-ltb to row.block low, u) (omega (arith, deep))
          ]
        ]
      ]

sum_low : (between : List Row) (looked above rows : ℕ) → looked ≤ rows → looked ≤ above + 1
    → above + length between ≤ rows → looked + all_but_one between ≤ rows
sum_low [] looked above rows low high both = omega (arith, low)
sum_low (row ∷ between) looked above rows low high both = omega (arith, high, both)

pub steps_of_rows : RangeStepsAreOfRows
unfolding path
steps_of_rows rows key from to lawful =
    let blocks : List ℕ = blocks_of_key rows key in
    let both : length (blocks_after to blocks) + length (rows_between rows key from to)
    ≤ length rows = subst (λ (n : ℕ). length (blocks_after to blocks) + n ≤ length rows)
    (ap length (sym (filter_reverse (is_between key from to) rows))
    ∙ length-reverse (rows_between rows key from to))
    (subst (λ (n : ℕ). length (blocks_after to blocks)
    + length (filter (is_between key from to) (reverse rows)) ≤ n) (length-reverse rows)
    (apart key from to (reverse rows))) in
    let high : length (path rows key to) ≤ length (blocks_after to blocks) + 1 =
    subst (λ (looked : List ℕ). length looked ≤ length (blocks_after to blocks) + 1)
    (sym (path_of_blocks rows key to lawful
    ∙ over_is_walk to blocks (key_falls rows key lawful.ordered)))
    (walk_high (length blocks) to blocks) in
    sum_low (rows_between rows key from to) (length (path rows key to))
    (length (blocks_after to blocks)) (length rows)
    (path_low (length rows) (links rows key) to
    (option_map (λ (row : Row). row.block) (newest rows key)))
    high both
