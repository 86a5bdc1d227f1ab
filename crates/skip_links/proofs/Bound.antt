-- The bound on the length of a path: a lookup first goes up by a level at each step, and then down by
-- one at each step.
use Rattle.std.proofs.Common.{◌≡◌, ◌∙◌, ℕ, zero, suc, ◌+◌, ◌-◌, ◌*◌, ◌/◌, ◌^◌, ◌<◌, ◌≤◌, ◌⊎◌, ◌&&◌, Bool, true, false, nat_lt, List, [], ◌∷◌, length, refl, sym, arith, inl, inr}
use Rattle.std.specs.Prelude.{nat_le, if◌then◌else◌}
use Rattle.std.proofs.lemmas.Bool.{cases_lt, cases_Bool, lt-ltb, le-ltb, ltb-true, le-leb, and_from, and_left, and_right}
use Rattle.std.proofs.lemmas.Bool.Decides.{leb_tells}
use Rattle.std.proofs.Math.Nat.{div-eq_of_lt}
use Rattle.skip_links.specs.Falling.{IsFalling, is_first, from_level}
use Rattle.skip_links.proofs.Falls.{from_first, from_past, from_next, rest_falls}
use Rattle.skip_links.proofs.PathLevels.{IsAt, IsLow, at_bottom, from_bottom, from_falls, leads_to_level, stays_low, leads_below, highest_link_is_higher, levels_below, levels_above}

-- ---- a lookup over falling blocks

-- Whether the first block is above t.
abbrev pub is_above : ℕ → List ℕ → Bool
is_above t [] = false
is_above t (u ∷ rest) = nat_lt t u

-- Where a lookup up to t goes on to: by the highest link below a level that leads above t, else to
-- the version before.
unfoldable pub next : ℕ → ℕ → ℕ → List ℕ → List ℕ
next t zero u rest = rest
next t (suc level) u rest = if is_first level u rest && is_above t (from_level level rest) then from_level level rest else next t level u rest

-- The blocks that a lookup looks at, and at most n of them.
unfoldable pub walk : ℕ → ℕ → List ℕ → List ℕ
walk zero t blocks = []
walk (suc n) t [] = []
walk (suc n) t (u ∷ rest) = u ∷ (if nat_le u t then [] else walk n t (next t 32 u rest))

-- ---- turns

pub late : (u t : ℕ) → t < u → nat_le u t ≡ false
late u t above = elim (leb_tells u t) [
  | inl early ↦ absurd (omega (arith, above, early.1))
  | inr is ↦ is.0
]

pub low_or_above : (t : ℕ) (blocks : List ℕ) → IsLow t blocks ⊎ (is_above t blocks ≡ true)
low_or_above t [] = inl tt
low_or_above t (u ∷ rest) = elim (cases_lt t u) [
  | inl lt ↦ inr (lt-ltb t u lt)
  | inr le ↦ inl le
]

pub not_above : (t : ℕ) (blocks : List ℕ) → IsLow t blocks → is_above t blocks ≡ false
not_above t [] low = refl
not_above t (u ∷ rest) low = le-ltb t u low

-- Blocks of which `is_above` holds have a first one, and that is above t.
pub above_first : (t : ℕ) (blocks : List ℕ) → is_above t blocks ≡ true → (v : ℕ) × (rest : List ℕ) × (blocks ≡ v ∷ rest) × (t < v)
above_first t [] above = absurd cc
above_first t (u ∷ rest) above = (u, rest, refl, ltb-true t u above)

pub next_takes : (t level u : ℕ) (rest : List ℕ) → IsAt level u rest → is_above t (from_level level rest) ≡ true → next t (suc level) u rest ≡ from_level level rest
unfolding next
next_takes t level u rest on above = rw (and_from (is_first level u rest) (is_above t (from_level level rest)) on above) refl

next_low : (t level u : ℕ) (rest : List ℕ) → IsLow t (from_level level rest) → next t (suc level) u rest ≡ next t level u rest
unfolding next
next_low t level u rest low = rw (and_right (is_first level u rest) (is_above t (from_level level rest)) (not_above t (from_level level rest) low)) refl

pub next_off : (t level u : ℕ) (rest : List ℕ) → is_first level u rest ≡ false → next t (suc level) u rest ≡ next t level u rest
unfolding next
next_off t level u rest off = rw (and_left (is_first level u rest) (is_above t (from_level level rest)) off) refl

pub next_none : (t level u : ℕ) → next t level u [] ≡ []
unfolding next from_level
next_none t zero u = refl
next_none t (suc level) u = next_none t level u

pub walk_none : (n t : ℕ) → walk n t [] ≡ []
unfolding walk
walk_none zero t = refl
walk_none (suc n) t = refl

pub walk_on : (n t u : ℕ) (rest : List ℕ) → t < u → walk (suc n) t (u ∷ rest) ≡ u ∷ walk n t (next t 32 u rest)
unfolding walk
walk_on n t u rest above = rw (late u t above) refl

pub walk_ends : (n t u : ℕ) (rest : List ℕ) → u ≤ t → walk (suc n) t (u ∷ rest) ≡ u ∷ []
unfolding walk
walk_ends n t u rest low = rw (le-leb u t low) refl

walk_zero : (t : ℕ) (blocks : List ℕ) → walk 0 t blocks ≡ []
unfolding walk
walk_zero t blocks = refl

walk_answer : (n t u : ℕ) (rest : List ℕ) → u ≤ t → length (walk n t (u ∷ rest)) ≤ 1
walk_answer zero t u rest low = rw (walk_zero t (u ∷ rest)) (omega arith)
walk_answer (suc n) t u rest low = rw (walk_ends n t u rest low) (omega arith)

walk_first : (n t u : ℕ) → length (walk n t (u ∷ [])) ≤ 1
walk_first zero t u = rw (walk_zero t (u ∷ [])) (omega arith)
walk_first (suc n) t u = elim (cases_lt t u) [
  | inl above ↦ rw (walk_on n t u [] above, next_none t 32 u, walk_none n t) (omega arith)
  | inr low ↦ walk_answer (suc n) t u [] low
]

walk_low : (n t : ℕ) (blocks : List ℕ) → IsLow t blocks → length (walk n t blocks) ≤ 1
walk_low n t [] low = rw (walk_none n t) (omega arith)
walk_low n t (u ∷ rest) low = walk_answer n t u rest low

-- ---- down

-- The version in block u is at each level below j, and nothing is above t at level j or higher.
record IsDown (t u : ℕ) (rest : List ℕ) (j : ℕ) : Type 0 where
  falling : IsFalling (u ∷ rest)
  levels : (level : ℕ) → level < j → IsAt level u rest
  low : IsLow t (from_level j rest)

-- A lookup goes on by a link of a level below j, and the last version at the level above is at most t.
record GoesDown (t : ℕ) (rest to : List ℕ) (j : ℕ) : Type 0 where
  level : ℕ
  lower : level < j
  is : to ≡ from_level level rest
  above : is_above t (from_level level rest) ≡ true
  low : IsLow t (from_level (suc level) rest)

low_higher : (t level : ℕ) (rest : List ℕ) → IsFalling rest → IsLow t (from_level level rest) → IsLow t (from_level (suc level) rest)
low_higher t level rest falling low = rw (from_next level rest) at (stays_low (suc level) t (from_level level rest) (from_falls level rest falling) low)

low_far : (t level d : ℕ) (rest : List ℕ) → IsFalling rest → IsLow t (from_level level rest) → IsLow t (from_level (d + level) rest)
low_far t level zero rest falling low = let e : 0 + level ≡ level = omega arith in rw e low
low_far t level (suc d) rest falling low =
    let e : suc d + level ≡ suc (d + level) = omega arith in
    rw e (low_higher t (d + level) rest falling (low_far t level d rest falling low))

next_down : (t m u : ℕ) (rest : List ℕ) (j : ℕ) → IsDown t u rest j → IsLow t (from_level m rest)
    → ((next t m u rest ≡ rest) × IsLow t (from_level 0 rest)) ⊎ GoesDown t rest (next t m u rest) j
unfolding next
next_down t zero u rest j down low = inl (refl, low)
next_down t (suc m) u rest j down low = elim (low_or_above t (from_level m rest)) [
  | inl lower ↦ rw (next_low t m u rest lower) (next_down t m u rest j down lower)
  | inr above ↦ elim (cases_lt m j) [
    | inl lt ↦ inr (record { level = m; lower = lt; is = next_takes t m u rest (down.levels m lt) above; above = above; low = low })
    | inr ge ↦
        let far : (m - j) + j ≡ m = omega arith in
        let is_low = rw far at (low_far t j (m - j) rest (rest_falls u rest down.falling) down.low) in
        absurd (let off = not_above t (from_level m rest) is_low in cc)
  ]
]

-- Where a link leads, when the one of the level above leads to t or below.
lands : (t level v : ℕ) (rest older : List ℕ) → IsFalling rest → from_level level rest ≡ v ∷ older → t < v → IsLow t (from_level (suc level) rest) → IsDown t v older level
lands t level v rest older falling e above low =
    let falls : IsFalling (v ∷ older) = rw e at (from_falls level rest falling) in
    let on = leads_to_level level v rest older e in
    let higher : from_level (suc level) (v ∷ older) ≡ from_level (suc level) rest = rw e at (from_next level rest) in
    let still_low : IsLow t (from_level (suc level) (v ∷ older)) = rw higher low in
    let off : is_first (suc level) v older ≡ false = elim (cases_Bool (is_first (suc level) v older)) [
      | inl is ↦ absurd (let l = rw (from_first (suc level) v older is) at still_low in omega (arith, l))
      | inr is_not ↦ is_not
    ] in
    record {
      falling = falls;
      levels = λ k lt. levels_below level v older on k (omega arith);
      low = rw (highest_link_is_higher level v older falls on off, ← from_past (suc level) v older off) still_low;
    }

-- On the way down each step goes down by a level.
down_bound : (n t u : ℕ) (rest : List ℕ) (j : ℕ) → j ≤ 32 → IsDown t u rest j → length (walk n t (u ∷ rest)) ≤ j + 2
down_bound zero t u rest j small down = rw (walk_zero t (u ∷ rest)) (omega arith)
down_bound (suc n) t u rest j small down = elim (cases_lt t u) [
  | inr low ↦ omega (arith, walk_answer (suc n) t u rest low)
  | inl above ↦
      let falls = rest_falls u rest down.falling in
      let far : (32 - j) + j ≡ 32 = omega arith in
      let low = rw far at (low_far t j (32 - j) rest falls down.low) in
      rw (walk_on n t u rest above) (elim (next_down t 32 u rest j down low) [
        | inl stop ↦
            let is_low = rw (from_bottom rest falls) at stop.1 in
            rw stop.0 (omega (arith, walk_low n t rest is_low))
        | inr goes ↦
            let to = above_first t (from_level goes.level rest) goes.above in
            let lower = goes.lower in
            let there = lands t goes.level to.0 rest to.1 falls to.2 to.3 goes.low in
            rw (goes.is, to.2) (omega (arith, down_bound n t to.0 to.1 goes.level (omega (arith, lower)) there, lower))
      ])
]

-- ---- up

-- The highest level of the version in block u, which is not the first; it is h or higher.
record IsHighest (u h : ℕ) (rest : List ℕ) (digits : ℕ) : Type 0 where
  level : ℕ
  least : h ≤ level
  fits : level < digits
  on : IsAt level u rest
  off : is_first (suc level) u rest ≡ false

highest : (d h digits u p : ℕ) (rest : List ℕ) → d + h ≡ digits → u < 2 ^ digits → IsAt h u (p ∷ rest) → IsHighest u h (p ∷ rest) digits
highest zero h digits u p rest sum few on =
    let e : h ≡ digits = omega arith in
    let none : u / 2 ^ digits ≡ 0 = div-eq_of_lt few in
    let lt = ltb-true (p / 2 ^ h) (u / 2 ^ h) on in
    absurd (let less = rw e at lt in omega (arith, less, none))
highest (suc d) h digits u p rest sum few on = elim (cases_Bool (is_first (suc h) u (p ∷ rest))) [
  | inl higher ↦
      let r = highest d (suc h) digits u p rest (omega arith) few higher in
      record { level = r.level; least = omega (arith, r.least); fits = r.fits; on = r.on; off = r.off }
  | inr off ↦ record { level = h; least = omega arith; fits = omega arith; on = on; off = off }
]

next_far : (d level t u : ℕ) (rest : List ℕ) → is_first level u rest ≡ false → next t (d + level) u rest ≡ next t level u rest
next_far zero level t u rest off = let e : 0 + level ≡ level = omega arith in rw e refl
next_far (suc d) level t u rest off =
    let e : suc d + level ≡ suc (d + level) = omega arith in
    rw e (next_off t (d + level) u rest (levels_above d level u rest off) ∙ next_far d level t u rest off)

-- On the way up each step goes up by a level. When the highest link does not lead above t, the way
-- down begins.
up_bound : (n t digits h u : ℕ) (rest : List ℕ) → IsFalling (u ∷ rest) → u < 2 ^ digits → digits ≤ 32 → h ≤ digits → IsAt h u rest
    → length (walk n t (u ∷ rest)) + h ≤ 2 * digits + 2
up_bound zero t digits h u rest falling few small hs on = rw (walk_zero t (u ∷ rest)) (omega arith)
up_bound (suc n) t digits h u [] falling few small hs on = omega (arith, walk_first (suc n) t u)
up_bound (suc n) t digits h u (p ∷ rest) falling few small hs on = elim (cases_lt t u) [
  | inr low ↦ omega (arith, walk_answer (suc n) t u (p ∷ rest) low)
  | inl above ↦
      let top = highest (digits - h) h digits u p rest (omega arith) few on in
      let fits = top.fits in
      let least = top.least in
      elim (low_or_above t (from_level top.level (p ∷ rest))) [
        | inl low ↦
            let down : IsDown t u (p ∷ rest) top.level = record {
              falling = falling;
              levels = λ k below. levels_below top.level u (p ∷ rest) top.on k (omega arith);
              low = low;
            } in
            omega (arith, down_bound (suc n) t u (p ∷ rest) top.level (omega (arith, fits)) down, fits, least)
        | inr leads ↦
            let to = above_first t (from_level top.level (p ∷ rest)) leads in
            let e = to.2 in
            let far : (32 - suc top.level) + suc top.level ≡ 32 = omega (arith, fits) in
            let takes = rw far at (next_far (32 - suc top.level) (suc top.level) t u (p ∷ rest) top.off) ∙ next_takes t top.level u (p ∷ rest) top.on leads ∙ e in
            let higher = leads_to_level (suc top.level) to.0 (p ∷ rest) to.1 (sym (highest_link_is_higher top.level u (p ∷ rest) falling top.on top.off) ∙ e) in
            let falls : IsFalling (to.0 ∷ to.1) = rw e at (from_falls top.level (p ∷ rest) falling.1) in
            let bound = leads_below top.level to.0 p (p ∷ rest) to.1 falling.1 (omega arith) e in
            let rest_bound = up_bound n t digits (suc top.level) to.0 to.1 falls (omega (arith, falling.0)) small (omega (arith, fits)) higher in
            rw (walk_on n t u (p ∷ rest) above, takes) (omega (arith, rest_bound, least))
      ]
]

pub walk_bounded : (n t digits u : ℕ) (rest : List ℕ) → IsFalling (u ∷ rest) → u < 2 ^ digits → digits ≤ 32 → length (walk n t (u ∷ rest)) ≤ 2 * digits + 2
walk_bounded n t digits u rest falling few small =
    omega (arith, up_bound n t digits 0 u rest falling few small (omega arith) (at_bottom u rest falling))
