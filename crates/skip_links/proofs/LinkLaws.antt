-- The laws of heights and links, from what is known of the falling blocks of a key.
use Rattle.std.proofs.Common.{◌≡◌, ◌∙◌, ℕ, ◌+◌, ◌*◌, ◌/◌, ◌^◌, ◌<◌, ◌≤◌, Bool, true, false, ◌&&◌, ◌||◌, ◌==◌, not, nat_lt, List, [], ◌∷◌, map, filter, reverse, Option, refl, sym, ap, arith, inl, inr}
use Rattle.std.specs.Prelude.{Some, None, slice_get, bit_xor}
use Rattle.std.specs.List.{find, list_any, filter_map, range_with_len, AllByRecursion}
use Rattle.std.specs.Option.{option_map}
use Rattle.std.specs.Int.Bits.{xor_add_and}
use Rattle.std.specs.Cmp.Lexicographic.{pointwise}
use Rattle.std.proofs.lemmas.Bool.{cases_Bool, cases_lt, and_parts, lt-ltb, ltb-true, eq-eqb}
use Rattle.std.proofs.lemmas.Nat.{xor_lt, leading_top, and_le_l, and_le_r}
use Rattle.std.proofs.Math.Nat.{div-eq_of_lt, two-pow-succ}
use Rattle.lc_base.specs.declared.row.Row.{Row}
use Rattle.lc_base.specs.History.{IsLawful, below, newest}
use Rattle.skip_links.specs.Links.{is_older, are_close, is_at_level, height, link, links}
use Rattle.skip_links.specs.Falling.{older_blocks, IsFalling, is_first, from_level, first_block, last_at_level}
use Rattle.skip_links.specs.Laws.{has_older, has_older_in}
use Rattle.skip_links.specs.declared.limits.TheConstants.{MAX_LEVEL}
use Rattle.skip_links.proofs.Falls.{from_first, from_past}
use Rattle.skip_links.proofs.Towers.{any_reverse, blocks_fall, height_is, links_none, lawful_link}
use Rattle.skip_links.proofs.Threads.{blocks_below}
use Rattle.skip_links.proofs.Lists.{filter_map_on, filter_map_none, range_first}

-- ---- the version before

found_first : (p : Row → Bool) (rows : List Row) → option_map (λ (row : Row). row.block) (find p rows) ≡ first_block (map (λ (row : Row). row.block) (filter p rows))
found_first p [] = refl
found_first p (row ∷ rows) = elim (cases_Bool (p row)) [
  | inl e ↦ rw e refl
  | inr e ↦ rw e (found_first p rows)
]

-- The first of the older blocks is that of the newest row before the block.
pub newest_block : (rows : List Row) (key : List ℕ) (block : ℕ)
    → option_map (λ (row : Row). row.block) (newest (below rows block) key) ≡ first_block (older_blocks rows key block)
newest_block rows key block =
    found_first (λ (row : Row). pointwise ◌==◌ row.key key) (reverse (below rows block)) ∙ ap first_block (blocks_below rows key block)

from_bottom : (blocks : List ℕ) → IsFalling blocks → from_level 0 blocks ≡ blocks
unfolding from_level
from_bottom [] falls = refl
from_bottom (block ∷ []) falls = refl
from_bottom (block ∷ previous ∷ older) falls =
    from_first 0 block (previous ∷ older) (lt-ltb (previous / 2 ^ 0) (block / 2 ^ 0) (omega (arith, falls.0)))

at_bottom : (block : ℕ) (blocks : List ℕ) → IsFalling (block ∷ blocks) → last_at_level blocks 0 ≡ first_block blocks
at_bottom block [] falls = ap first_block (from_bottom [] tt)
at_bottom block (previous ∷ older) falls = ap first_block (from_bottom (previous ∷ older) falls.1)

links_over : (rows : List Row) (key : List ℕ) (block : ℕ) → IsLawful rows
    → links rows key block ≡ filter_map (last_at_level (older_blocks rows key block)) (range_with_len 0 (height rows key block + 1))
unfolding links
links_over rows key block lawful =
    filter_map_on (link rows key block) (last_at_level (older_blocks rows key block)) (range_with_len 0 (height rows key block + 1)) (λ level. lawful_link rows key block level lawful)

first_of_links : (f : ℕ → Option ℕ) (n previous : ℕ) → f 0 ≡ Some previous → slice_get (filter_map f (range_with_len 0 (n + 1))) 0 ≡ Some previous
first_of_links f n previous e = rw (range_first n, e) refl

pub first_link : (rows : List Row) (key : List ℕ) (block : ℕ) → IsLawful rows
    → slice_get (links rows key block) 0 ≡ option_map (λ (row : Row). row.block) (newest (below rows block) key)
first_link rows key block lawful = on (older_blocks rows key block) refl ∙ sym (newest_block rows key block)
  where
    on : (blocks : List ℕ) → older_blocks rows key block ≡ blocks → slice_get (links rows key block) 0 ≡ first_block (older_blocks rows key block)
    on [] is = rw (links_none rows key block lawful is, is) refl
    on (previous ∷ older) is =
        let bottom : last_at_level (older_blocks rows key block) 0 ≡ Some previous =
        at_bottom block (older_blocks rows key block) (blocks_fall rows key block lawful) ∙ ap first_block is in
        ap (λ (all : List ℕ). slice_get all 0) (links_over rows key block lawful)
        ∙ first_of_links (last_at_level (older_blocks rows key block)) (height rows key block) previous bottom ∙ sym (ap first_block is)

-- ---- one link for each level

has_last : (level block : ℕ) (older : List ℕ) → (last : ℕ) × (last_at_level (block ∷ older) level ≡ Some last)
unfolding from_level
has_last level block [] = (block, refl)
has_last level block (previous ∷ older) = elim (cases_Bool (is_first level block (previous ∷ older))) [
  | inl e ↦ (block, ap first_block (from_first level block (previous ∷ older) e))
  | inr e ↦ let deep = has_last level previous older in (deep.0, ap first_block (from_past level block (previous ∷ older) e) ∙ deep.1)
]

all_there : (f : ℕ → Option ℕ) (levels : List ℕ) → ((level : ℕ) → (last : ℕ) × (f level ≡ Some last)) → map Some (filter_map f levels) ≡ map f levels
all_there f [] h = refl
all_there f (level ∷ levels) h = let one = h level in rw one.1 (ap (λ (all : List (Option ℕ)). Some one.0 ∷ all) (all_there f levels h))

none_kept : (p : Row → Bool) (rows : List Row) → map (λ (row : Row). row.block) (filter p rows) ≡ [] → list_any p rows ≡ false
none_kept p [] e = refl
none_kept p (row ∷ rows) e = elim (cases_Bool (p row)) [
  | inl t ↦ absurd (let kept = rw t at e in cc)
  | inr f ↦ rw f (none_kept p rows (rw f at e))
]

pub link_at_each : (rows : List Row) (key : List ℕ) (block : ℕ) → IsLawful rows → has_older rows key block ≡ true
    → map Some (links rows key block) ≡ map (link rows key block) (range_with_len 0 (height rows key block + 1))
unfolding links
link_at_each rows key block lawful has =
    all_there (link rows key block) (range_with_len 0 (height rows key block + 1)) (λ level. one level (older_blocks rows key block) refl)
  where
    one : (level : ℕ) (blocks : List ℕ) → older_blocks rows key block ≡ blocks → (last : ℕ) × (link rows key block level ≡ Some last)
    one level [] is =
        let none : list_any (is_older key block) rows ≡ false = sym (any_reverse (is_older key block) rows) ∙ none_kept (is_older key block) (reverse rows) is in
        absurd (let both : true ≡ false = sym has ∙ none in cc)
    one level (previous ∷ older) is =
        let last = has_last level previous older in
        (last.0, lawful_link rows key block level lawful ∙ ap (λ (all : List ℕ). last_at_level all level) is ∙ last.1)

-- ---- the highest difference

pub height_is_difference : (rows : List Row) (key : List ℕ) (block : ℕ) (version : Row) → IsLawful rows → block < 2 ^ 32 → newest (below rows block) key ≡ Some version
    → (2 ^ height rows key block ≤ bit_xor version.block block) × (bit_xor version.block block < 2 * 2 ^ height rows key block)
height_is_difference rows key block version lawful few is =
    on (older_blocks rows key block) refl (sym (newest_block rows key block) ∙ ap (option_map (λ (row : Row). row.block)) is)
  where
    differ : (p u : ℕ) → p < u → 0 < bit_xor p u
    differ p u less = elim (cases_lt 0 (bit_xor p u)) [
      | inl l ↦ l
      | inr g ↦ absurd (omega (arith, g, less, xor_add_and p u, and_le_l p u, and_le_r p u))
    ]

    on : (blocks : List ℕ) → older_blocks rows key block ≡ blocks → first_block (older_blocks rows key block) ≡ Some version.block
        → (2 ^ height rows key block ≤ bit_xor version.block block) × (bit_xor version.block block < 2 * 2 ^ height rows key block)
    on [] at first = absurd (let none = rw at at first in cc)
    on (b ∷ older) at first =
        let same : b ≡ version.block = (let some = rw at at first in cc) in
        let blocks : older_blocks rows key block ≡ version.block ∷ older = at ∙ ap (λ (n : ℕ). n ∷ older) same in
        let falls = blocks_fall rows key block lawful in
        let less : version.block < block = (let all = rw blocks at falls in all.0) in
        let top = leading_top 32 (bit_xor version.block block) (differ version.block block less)
        (xor_lt 32 version.block block (omega (arith, less, few)) few) in
        let high : bit_xor version.block block < 2 * 2 ^ top.0 = omega (arith, top.3, two-pow-succ top.0) in
        let is_height = height_is MAX_LEVEL top.0 rows key block version.block older falls blocks less top.2 high (omega (arith, top.1)) in
        rw is_height (top.2, high)

-- ---- the first version alone

first_any : (key : List ℕ) (block level : ℕ) → block < 2 ^ level → (rows : List Row)
    → list_any (λ (row : Row). is_older key block row && are_close level row.block block) rows ≡ list_any (is_older key block) rows
first_any key block level low [] = refl
first_any key block level low (row ∷ rows) =
    let deep = first_any key block level low rows in
    elim (cases_Bool (is_older key block row)) [
      | inr e ↦ rw e deep
      | inl e ↦
          let less = ltb-true row.block block (and_parts (pointwise ◌==◌ row.key key) (nat_lt row.block block) e).1 in
          let none : row.block / 2 ^ level ≡ 0 = div-eq_of_lt (omega (arith, less, low)) in
          let same : row.block / 2 ^ level ≡ block / 2 ^ level = none ∙ sym (div-eq_of_lt low) in
          rw (e, eq-eqb (row.block / 2 ^ level) (block / 2 ^ level) same) refl
    ]

pub first_alone : (rows : List Row) (key : List ℕ) (block level : ℕ) → block < 2 ^ level → is_at_level rows key block level ≡ not (has_older rows key block)
first_alone rows key block level low = ap not (first_any key block level low rows)

-- ---- older versions

none_found : (p q : Row → Bool) (rows : List Row) → list_any p rows ≡ false → find (λ (row : Row). p row && q row) rows ≡ None
none_found p q [] e = refl
none_found p q (row ∷ rows) e = elim (cases_Bool (p row)) [
  | inl t ↦ absurd (let some = rw t at e in cc)
  | inr f ↦ rw f (none_found p q rows (rw f at e))
]

no_link : (rows : List Row) (key : List ℕ) (block level : ℕ) → has_older rows key block ≡ false → link rows key block level ≡ None
unfolding link
no_link rows key block level none =
    ap (option_map (λ (row : Row). row.block)) (none_found (is_older key block) (λ (row : Row). is_at_level rows key row.block level) (reverse rows)
    (any_reverse (is_older key block) rows ∙ none))

pub first_has_none : (rows : List Row) (key : List ℕ) (block : ℕ) → has_older rows key block ≡ false → links rows key block ≡ []
unfolding links
first_has_none rows key block none =
    filter_map_none (link rows key block) (range_with_len 0 (height rows key block + 1)) (λ level. no_link rows key block level none)

found_any : (p q : Row → Bool) (rows : List Row) (found : ℕ) → option_map (λ (row : Row). row.block) (find (λ (row : Row). p row && q row) rows) ≡ Some found
    → list_any (λ (row : Row). p row && row.block == found) rows ≡ true
found_any p q [] found e = absurd cc
found_any p q (row ∷ rows) found e = elim (cases_Bool (p row)) [
  | inr f ↦ rw f (found_any p q rows found (rw f at e))
  | inl t ↦ elim (cases_Bool (q row)) [
    | inl u ↦
        let some : Some row.block ≡ Some found = rw (t, u) at e in
        let same : row.block ≡ found = cc in
        rw (t, eq-eqb row.block found same) refl
    | inr g ↦ rw t (or_true (row.block == found) (list_any (λ (row : Row). p row && row.block == found) rows) (found_any p q rows found (rw (t, g) at e)))
  ]
]
  where
    or_true : (a b : Bool) → b ≡ true → (a || b) ≡ true
    or_true true b e = refl
    or_true false b e = e

link_older : (rows : List Row) (key : List ℕ) (block level older : ℕ) → link rows key block level ≡ Some older → has_older_in rows key block older ≡ true
unfolding link
link_older rows key block level older e =
    sym (any_reverse (λ (row : Row). is_older key block row && row.block == older) rows)
    ∙ found_any (is_older key block) (λ (row : Row). is_at_level rows key row.block level) (reverse rows) older e

all_mapped : (P : ℕ → Type 0) (f : ℕ → Option ℕ) (levels : List ℕ) → ((level x : ℕ) → f level ≡ Some x → P x) → AllByRecursion P (filter_map f levels)
all_mapped P f [] h = tt
all_mapped P f (level ∷ levels) h = on (f level) refl (all_mapped P f levels h)
  where
    on : (o : Option ℕ) → f level ≡ o → AllByRecursion P (filter_map f levels) → AllByRecursion P (filter_map f (level ∷ levels))
    on None e deep = rw e deep
    on (Some x) e deep = rw e (h level x e, deep)

pub links_older : (rows : List Row) (key : List ℕ) (block : ℕ)
    → AllByRecursion (λ (older : ℕ). has_older_in rows key block older ≡ true) (links rows key block)
unfolding links
links_older rows key block =
    all_mapped (λ (older : ℕ). has_older_in rows key block older ≡ true) (link rows key block) (range_with_len 0 (height rows key block + 1))
    (λ level older e. link_older rows key block level older e)
