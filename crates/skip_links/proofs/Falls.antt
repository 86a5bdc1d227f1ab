-- Falling lists of blocks: which versions are at a level, and which is the last one there.
use Rattle.std.proofs.Common.{◌≡◌, ◌∙◌, ℕ, zero, suc, ◌+◌, ◌/◌, ◌^◌, ◌<◌, ◌≤◌, true, false, not, List, [], ◌∷◌, refl, sym, ap, arith, inl, inr}
use Rattle.std.specs.List.{list_any, AllByRecursion}
use Rattle.std.proofs.lemmas.Nat.{shr-shr}
use Rattle.std.proofs.lemmas.Bool.{cases_lt, cases_Bool, lt-ltb, le-ltb, ltb-true, eq-eqb, ne_eqb}
use Rattle.skip_links.specs.Links.{are_close}
use Rattle.skip_links.specs.Falling.{IsFalling, is_first, from_level}

pub halved : (n level : ℕ) → n / 2 ^ suc level ≡ n / 2 ^ level / 2
halved n level = let e : suc level ≡ level + 1 = omega arith in ap (λ (k : ℕ). n / 2 ^ k) e ∙ sym (shr-shr n level 1)

pub interval_mono : (level a b : ℕ) → a ≤ b → a / 2 ^ level ≤ b / 2 ^ level
interval_mono zero a b h = omega arith
interval_mono (suc level) a b h = let below = interval_mono level a b h in omega (arith, below, halved a level, halved b level)

-- A version at a level is at the level below.
pub first_lower : (level block : ℕ) (older : List ℕ) → is_first (suc level) block older ≡ true → is_first level block older ≡ true
first_lower level block [] h = refl
first_lower level block (previous ∷ older) h =
    let less = ltb-true (previous / 2 ^ suc level) (block / 2 ^ suc level) h in
    lt-ltb (previous / 2 ^ level) (block / 2 ^ level) (omega (arith, less, halved previous level, halved block level))

pub not_higher : (level block : ℕ) (older : List ℕ) → is_first level block older ≡ false → is_first (suc level) block older ≡ false
not_higher level block older h = elim (cases_Bool (is_first (suc level) block older)) [
  | inl t ↦ absurd (let below = first_lower level block older t in cc)
  | inr f ↦ f
]

pub from_first : (level block : ℕ) (older : List ℕ) → is_first level block older ≡ true → from_level level (block ∷ older) ≡ block ∷ older
unfolding from_level
from_first level block older h = rw h refl

pub from_past : (level block : ℕ) (older : List ℕ) → is_first level block older ≡ false → from_level level (block ∷ older) ≡ from_level level older
unfolding from_level
from_past level block older h = rw h refl

-- The last version at the level above is found from the last one at this level on.
pub from_next : (level : ℕ) (blocks : List ℕ) → from_level (suc level) (from_level level blocks) ≡ from_level (suc level) blocks
unfolding from_level
from_next level [] = refl
from_next level (block ∷ older) = elim (cases_Bool (is_first level block older)) [
  | inl t ↦ ap (from_level (suc level)) (from_first level block older t)
  | inr f ↦
      ap (from_level (suc level)) (from_past level block older f) ∙ from_next level older
      ∙ sym (from_past (suc level) block older (not_higher level block older f))
]

wider : (bound : ℕ) (blocks : List ℕ) → AllByRecursion (λ (q : ℕ). q < bound) blocks → AllByRecursion (λ (q : ℕ). q < suc bound) blocks
wider bound [] h = tt
wider bound (q ∷ blocks) h = (omega (arith, h.0), wider bound blocks h.1)

-- All blocks after the first are below it.
pub all_lower : (block : ℕ) (older : List ℕ) → IsFalling (block ∷ older) → AllByRecursion (λ (q : ℕ). q < block) older
all_lower block [] h = tt
all_lower block (previous ∷ older) h = (h.0, lower block previous older h.0 (all_lower previous older h.1))
  where
    lower : (u p : ℕ) (blocks : List ℕ) → p < u → AllByRecursion (λ (q : ℕ). q < p) blocks → AllByRecursion (λ (q : ℕ). q < u) blocks
    lower u p [] l h = tt
    lower u p (q ∷ blocks) l h = (omega (arith, l, h.0), lower u p blocks l h.1)

none_close : (level m u : ℕ) (blocks : List ℕ) → m / 2 ^ level < u / 2 ^ level → AllByRecursion (λ (q : ℕ). q < suc m) blocks → list_any (λ (q : ℕ). are_close level q u) blocks ≡ false
none_close level m u [] l h = refl
none_close level m u (q ∷ blocks) l h =
    let low : q / 2 ^ level ≤ m / 2 ^ level = interval_mono level q m (omega (arith, h.0)) in
    let far = ne_eqb (q / 2 ^ level) (u / 2 ^ level) (λ e. omega (arith, l, e, low)) in
    rw far (none_close level m u blocks l h.1)

-- No older block is in the block's interval exactly if the one before is not.
pub none_in_interval : (level u : ℕ) (older : List ℕ) → IsFalling (u ∷ older) → not (list_any (λ (p : ℕ). are_close level p u) older) ≡ is_first level u older
none_in_interval level u [] h = refl
none_in_interval level u (p ∷ older) h = elim (cases_lt (p / 2 ^ level) (u / 2 ^ level)) [
  | inl l ↦
      rw (lt-ltb (p / 2 ^ level) (u / 2 ^ level) l, none_close level p u (p ∷ older) l (omega arith, wider p older (all_lower p older h.1)))
      refl
  | inr l ↦
      let same : p / 2 ^ level ≡ u / 2 ^ level = omega (arith, l, interval_mono level p u (omega (arith, h.0))) in
      rw (le-ltb (p / 2 ^ level) (u / 2 ^ level) l, eq-eqb (p / 2 ^ level) (u / 2 ^ level) same) refl
]

pub rest_falls : (block : ℕ) (older : List ℕ) → IsFalling (block ∷ older) → IsFalling older
rest_falls block [] h = tt
rest_falls block (previous ∷ older) h = h.1
