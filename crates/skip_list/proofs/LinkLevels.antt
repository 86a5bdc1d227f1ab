-- The links of one version, level by level: which is the highest, and how high it is.
use Rattle.std.proofs.Common.{◌≡◌, ◌∙◌, ℕ, zero, suc, ◌+◌, ◌*◌, ◌^◌, ◌<◌, ◌≤◌, false, List, [], ◌∷◌, ◌++◌, length, map, Option, Some, refl, sym, ap, arith, inl, inr}
use Rattle.std.specs.Prelude.{slice_get, bit_xor}
use Rattle.std.specs.List.{filter_map, range_with_len}
use Rattle.std.specs.Option.{option_to_list}
use Rattle.std.proofs.lemmas.Bool.{cases_Bool, cases_lt}
use Rattle.std.proofs.lemmas.List.{length-append}
use Rattle.std.proofs.lemmas.Nat.{xor_lt}
use Rattle.std.proofs.Math.Pow.{pow_mono}
use Rattle.skip_links.specs.Falling.{IsFalling, is_first, from_level}
use Rattle.skip_links.specs.declared.limits.TheConstants.{MAX_LEVEL}
use Rattle.skip_links.proofs.Differing.{apart, together, higher}
use Rattle.skip_links.proofs.Falls.{not_higher}
use Rattle.skip_links.specs.Towers.{height_up_to, height_over, from_last, last_at}
use Rattle.skip_links.specs.Paths.{binary_digits}
use Rattle.skip_links.proofs.PathLevels.{IsAt, leads_to_level, highest_link_is_higher}
use Rattle.skip_links.proofs.PathTowers.{map_from, levels_more}
use Rattle.skip_links.proofs.Walks.{digits_hold}

-- ---- the last version at a level

pub from_none : {A : Type 0} (block_of : A → ℕ) (level : ℕ) → from_last {A = A} block_of level [] ≡ []
unfolding from_last
from_none block_of level = refl

pub from_here : {A : Type 0} (block_of : A → ℕ) (level : ℕ) (version : A) (older : List A) → IsAt level (block_of version) (map block_of older)
    → from_last block_of level (version ∷ older) ≡ version ∷ older
unfolding from_last
from_here block_of level version older on = rw on refl

pub from_older : {A : Type 0} (block_of : A → ℕ) (level : ℕ) (version : A) (older : List A) → is_first level (block_of version) (map block_of older) ≡ false
    → from_last block_of level (version ∷ older) ≡ from_last block_of level older
unfolding from_last
from_older block_of level version older off = rw off refl

-- The last version at the level above is found from the last one at this level on.
pub from_again : {A : Type 0} (block_of : A → ℕ) (level : ℕ) (versions : List A) → from_last block_of (suc level) (from_last block_of level versions) ≡ from_last block_of (suc level) versions
unfolding from_last
from_again block_of level [] = refl
from_again block_of level (version ∷ older) = elim (cases_Bool (is_first level (block_of version) (map block_of older))) [
  | inl on ↦ ap (from_last block_of (suc level)) (from_here block_of level version older on)
  | inr off ↦
      ap (from_last block_of (suc level)) (from_older block_of level version older off) ∙ from_again block_of level older
      ∙ sym (from_older block_of (suc level) version older (not_higher level (block_of version) (map block_of older) off))
]

-- The last version at a level is at that level.
pub is_at_level : {A : Type 0} (block_of : A → ℕ) (level : ℕ) (versions : List A) (version : A) (older : List A) → from_last block_of level versions ≡ version ∷ older
    → IsAt level (block_of version) (map block_of older)
is_at_level block_of level versions version older e =
    leads_to_level level (block_of version) (map block_of versions) (map block_of older) (sym (map_from block_of level versions) ∙ ap (map block_of) e)

-- The highest link of a version leads to the last one at the level above, too.
pub highest_is_higher : {A : Type 0} (block_of : A → ℕ) (level u : ℕ) (rest : List A) → IsFalling (u ∷ map block_of rest) → IsAt level u (map block_of rest)
    → is_first (suc level) u (map block_of rest) ≡ false → from_last block_of level rest ≡ from_last block_of (suc level) rest
highest_is_higher {A = A} block_of level u rest falling on off = go (from_last block_of level rest) refl
  where
    go : (found : List A) → from_last block_of level rest ≡ found → from_last block_of level rest ≡ from_last block_of (suc level) rest
    go [] e = e ∙ sym (from_none block_of (suc level)) ∙ ap (from_last block_of (suc level)) (sym e) ∙ from_again block_of level rest
    go (version ∷ older) e =
        let blocks : from_level (suc level) (map block_of rest) ≡ map block_of (version ∷ older) =
        sym (highest_link_is_higher level u (map block_of rest) falling on off) ∙ sym (map_from block_of level rest) ∙ ap (map block_of) e in
        let above = leads_to_level (suc level) (block_of version) (map block_of rest) (map block_of older) blocks in
        e ∙ sym (from_here block_of (suc level) version older above) ∙ ap (from_last block_of (suc level)) (sym e) ∙ from_again block_of level rest

-- ---- the links of one version

pub has_link : {A : Type 0} (block_of : A → ℕ) (level : ℕ) (version : A) (older : List A) → (link : A) × (last_at block_of (version ∷ older) level ≡ Some link)
unfolding from_last
has_link block_of level version [] = (version, refl)
has_link {A = A} block_of level version (previous ∷ older) = elim (cases_Bool (is_first level (block_of version) (map block_of (previous ∷ older)))) [
  | inl on ↦ (version, ap (λ (vs : List A). slice_get vs 0) (from_here block_of level version (previous ∷ older) on))
  | inr off ↦
      let deep = has_link block_of level previous older in
      (deep.0, ap (λ (vs : List A). slice_get vs 0) (from_older block_of level version (previous ∷ older) off) ∙ deep.1)
]

with_link : {A : Type 0} (links : List A) (n : ℕ) (link : Option A) (version : A) → link ≡ Some version → length links ≡ n
    → (length (links ++ option_to_list link) ≡ n + 1) × (slice_get (links ++ option_to_list link) n ≡ link)
with_link links n link version is long = rw is (omega (arith, long, length-append links (version ∷ [])), rw (← long) (at_end links version))
  where
    at_end : {A : Type 0} (links : List A) (version : A) → slice_get (links ++ version ∷ []) (length links) ≡ Some version
    at_end [] version = refl
    at_end (link ∷ links) version = at_end links version

-- There is one link for each level.
pub levels_long : {A : Type 0} (block_of : A → ℕ) (n : ℕ) (version : A) (older : List A) → length (filter_map (last_at block_of (version ∷ older)) (range_with_len 0 n)) ≡ n
levels_long block_of zero version older = refl
levels_long {A = A} block_of (suc n) version older =
    let e : suc n ≡ n + 1 = omega arith in
    let link = has_link block_of n version older in
    let before = filter_map (last_at block_of (version ∷ older)) (range_with_len 0 n) in
    ap (λ (m : ℕ). length (filter_map (last_at block_of (version ∷ older)) (range_with_len 0 m))) e
    ∙ ap length (levels_more (last_at block_of (version ∷ older)) n)
    ∙ (with_link before n (last_at block_of (version ∷ older) n) link.0 link.1 (levels_long block_of n version older)).0
    ∙ sym e

-- The last link is that of the highest level.
pub levels_top : {A : Type 0} (block_of : A → ℕ) (n : ℕ) (version : A) (older : List A)
    → slice_get (filter_map (last_at block_of (version ∷ older)) (range_with_len 0 (n + 1))) n ≡ last_at block_of (version ∷ older) n
levels_top {A = A} block_of n version older =
    let link = has_link block_of n version older in
    let before = filter_map (last_at block_of (version ∷ older)) (range_with_len 0 n) in
    ap (λ (links : List A). slice_get links n) (levels_more (last_at block_of (version ∷ older)) n)
    ∙ (with_link before n (last_at block_of (version ∷ older) n) link.0 link.1 (levels_long block_of n version older)).1

-- ---- heights

-- A version is at its height.
pub at_height : (top u : ℕ) (rest : List ℕ) → IsAt 0 u rest → IsAt (height_up_to top u rest) u rest
unfolding height_up_to
at_height zero u rest bottom = bottom
at_height (suc top) u rest bottom = elim (cases_Bool (is_first (suc top) u rest)) [
  | inl on ↦ rw (on, on) refl
  | inr off ↦ rw off (at_height top u rest bottom)
]

-- Its height is no lower than a level at which it is.
pub height_least : (top level u : ℕ) (rest : List ℕ) → IsAt level u rest → level ≤ top → level ≤ height_up_to top u rest
unfolding height_up_to
height_least zero level u rest on few = few
height_least (suc top) level u rest on few = elim (cases_Bool (is_first (suc top) u rest)) [
  | inl is ↦ rw is few
  | inr off ↦ elim (cases_lt level (suc top)) [
    | inl lt ↦ rw off (height_least top level u rest on (omega (arith, lt)))
    | inr ge ↦ let e : level ≡ suc top = omega (arith, few, ge) in absurd (let is = rw e at on in cc)
  ]
]

-- The height is the place of the highest binary digit in which the block and that of the version before
-- it differ.
height_is : (top h u p : ℕ) (rest : List ℕ) → p < u → 2 ^ h ≤ bit_xor p u → bit_xor p u < 2 * 2 ^ h → h ≤ top → height_up_to top u (p ∷ rest) ≡ h
unfolding height_up_to
height_is zero h u p rest less low high few = omega (arith, few)
height_is (suc top) h u p rest less low high few = elim (cases_lt h (suc top)) [
  | inl l ↦ rw (together (suc top) p u (higher h (suc top) (bit_xor p u) high l)) (height_is top h u p rest less low high (omega (arith, l)))
  | inr g ↦
      let same : h ≡ suc top = omega (arith, few, g) in
      rw (apart (suc top) p u less (rw same at low)) (sym same)
]

pub height_over_is : (h u p : ℕ) (rest : List ℕ) → p < u → 2 ^ h ≤ bit_xor p u → bit_xor p u < 2 * 2 ^ h → h ≤ MAX_LEVEL → height_over u (p ∷ rest) ≡ h
height_over_is h u p rest less low high few = height_is MAX_LEVEL h u p rest less low high few

-- The height is below the number of the block's binary digits.
pub height_fits : (h p u : ℕ) → p < u → u < 2 ^ 32 → 2 ^ h ≤ bit_xor p u → h < binary_digits u
height_fits h p u less few low = elim (cases_lt h (binary_digits u)) [
  | inl fits ↦ fits
  | inr over ↦
      let digits = digits_hold 31 u few in
      let small = xor_lt (binary_digits u) p u (omega (arith, less, digits.0)) digits.0 in
      absurd (omega (arith, small, low, pow_mono {i = binary_digits u} {j = h} over))
]
