-- Falling lists of blocks: where the link of a level leads, and at which levels that version is.
use Rattle.std.proofs.Common.{◌≡◌, ◌∙◌, ℕ, zero, suc, ◌+◌, ◌*◌, ◌/◌, ◌^◌, ◌<◌, ◌≤◌, true, false, List, [], ◌∷◌, refl, sym, arith, inl, inr}
use Rattle.std.proofs.lemmas.Bool.{cases_lt, cases_Bool, lt-ltb, le-ltb, ltb-true, ltb-false}
use Rattle.skip_links.specs.Falling.{IsFalling, is_first, from_level}
use Rattle.skip_links.proofs.Falls.{halved, interval_mono, first_lower, not_higher, from_first, from_past, rest_falls}

-- The version in block u is at a level.
abbrev pub IsAt : ℕ → ℕ → List ℕ → Type 0
IsAt level u rest = is_first level u rest ≡ true

-- No block, or a first one that is at most t.
abbrev pub IsLow : ℕ → List ℕ → Type 0
IsLow t [] = Unit {0}
IsLow t (u ∷ rest) = u ≤ t

-- Each version is at level 0.
pub at_bottom : (u : ℕ) (rest : List ℕ) → IsFalling (u ∷ rest) → IsAt 0 u rest
at_bottom u [] falling = refl
at_bottom u (p ∷ rest) falling = lt-ltb (p / 2 ^ 0) (u / 2 ^ 0) (omega (arith, falling.0))

pub from_bottom : (rest : List ℕ) → IsFalling rest → from_level 0 rest ≡ rest
unfolding from_level
from_bottom [] falling = refl
from_bottom (u ∷ rest) falling = from_first 0 u rest (at_bottom u rest falling)

pub from_falls : (level : ℕ) (blocks : List ℕ) → IsFalling blocks → IsFalling (from_level level blocks)
unfolding from_level
from_falls level [] falling = tt
from_falls level (u ∷ rest) falling = elim (cases_Bool (is_first level u rest)) [
  | inl on ↦ rw (from_first level u rest on) falling
  | inr off ↦ rw (from_past level u rest off) (from_falls level rest (rest_falls u rest falling))
]

-- What a link leads to is at its level.
pub leads_to_level : (level v : ℕ) (blocks rest : List ℕ) → from_level level blocks ≡ v ∷ rest → IsAt level v rest
unfolding from_level
leads_to_level level v [] rest e = absurd cc
leads_to_level level v (u ∷ older) rest e = elim (cases_Bool (is_first level u older)) [
  | inl on ↦
      let same : u ∷ older ≡ v ∷ rest = sym (from_first level u older on) ∙ e in
      let heads : u ≡ v = cc in
      let tails : older ≡ rest = cc in
      rw (← heads, ← tails) on
  | inr off ↦ leads_to_level level v older rest (sym (from_past level u older off) ∙ e)
]

-- From a block that is at most t a link leads to none above t.
pub stays_low : (level t : ℕ) (blocks : List ℕ) → IsFalling blocks → IsLow t blocks → IsLow t (from_level level blocks)
unfolding from_level
stays_low level t [] falling low = tt
stays_low level t (u ∷ []) falling low = low
stays_low level t (u ∷ p ∷ rest) falling low = elim (cases_Bool (is_first level u (p ∷ rest))) [
  | inl on ↦ rw (from_first level u (p ∷ rest) on) low
  | inr off ↦ rw (from_past level u (p ∷ rest) off) (stays_low level t (p ∷ rest) falling.1 (omega (arith, falling.0)))
]

pub leads_below : (level v bound : ℕ) (blocks rest : List ℕ) → IsFalling blocks → IsLow bound blocks → from_level level blocks ≡ v ∷ rest → v ≤ bound
leads_below level v bound blocks rest falling low e = let is_low = stays_low level bound blocks falling low in rw e at is_low

-- From an even interval on, the last version at a level is at the level above.
even_interval : (level q p : ℕ) (rest : List ℕ) → IsFalling (p ∷ rest) → p / 2 ^ level ≡ 2 * q → from_level level (p ∷ rest) ≡ from_level (suc level) (p ∷ rest)
even_interval level q p [] falling even = from_first level p [] refl ∙ sym (from_first (suc level) p [] refl)
even_interval level q p (y ∷ rest) falling even = elim (cases_lt (y / 2 ^ level) (p / 2 ^ level)) [
  | inl lt ↦
      let above : IsAt (suc level) p (y ∷ rest) = lt-ltb (y / 2 ^ suc level) (p / 2 ^ suc level) (omega (arith, halved y level, halved p level)) in
      from_first level p (y ∷ rest) (lt-ltb (y / 2 ^ level) (p / 2 ^ level) lt) ∙ sym (from_first (suc level) p (y ∷ rest) above)
  | inr ge ↦
      let off : is_first level p (y ∷ rest) ≡ false = le-ltb (y / 2 ^ level) (p / 2 ^ level) ge in
      let mono : y / 2 ^ level ≤ p / 2 ^ level = interval_mono level y p (omega (arith, falling.0)) in
      let same : y / 2 ^ level ≡ 2 * q = omega arith in
      from_past level p (y ∷ rest) off ∙ even_interval level q y rest falling.1 same ∙ sym (from_past (suc level) p (y ∷ rest) (not_higher level p (y ∷ rest) off))
]

-- A version that is at a level and at none above is in the right half of its interval there. So the
-- last older version at its level is also the last one at the level above.
pub highest_link_is_higher : (level u : ℕ) (rest : List ℕ) → IsFalling (u ∷ rest) → IsAt level u rest → is_first (suc level) u rest ≡ false → from_level level rest ≡ from_level (suc level) rest
highest_link_is_higher level u [] falling on off = absurd cc
highest_link_is_higher level u (p ∷ rest) falling on off =
    let lt = ltb-true (p / 2 ^ level) (u / 2 ^ level) on in
    let ge = ltb-false (p / 2 ^ suc level) (u / 2 ^ suc level) off in
    even_interval level (p / 2 ^ level / 2) p rest falling.1 (omega (arith, lt, ge, halved p level, halved u level))

-- A version is at all levels below one at which it is.
pub levels_below : (level v : ℕ) (rest : List ℕ) → IsAt level v rest → (k : ℕ) → k < suc level → IsAt k v rest
levels_below zero v rest on k lt = let e : k ≡ 0 = omega arith in rw e on
levels_below (suc level) v rest on k lt = elim (cases_lt k (suc level)) [
  | inl below ↦ levels_below level v rest (first_lower level v rest on) k below
  | inr ge ↦ let e : k ≡ suc level = omega arith in rw e on
]

-- A version is at no level above one at which it is not.
pub levels_above : (d level u : ℕ) (rest : List ℕ) → is_first level u rest ≡ false → is_first (d + level) u rest ≡ false
levels_above zero level u rest off = let e : 0 + level ≡ level = omega arith in rw e off
levels_above (suc d) level u rest off =
    let e : suc d + level ≡ suc (d + level) = omega arith in
    rw e (not_higher (d + level) u rest (levels_above d level u rest off))
