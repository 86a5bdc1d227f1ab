-- Paths over falling blocks are walks of the bound's proof: they are as short, and end at the last
-- version up to a block.
use Rattle.std.proofs.Common.{◌≡◌, ◌∙◌, ℕ, zero, suc, ◌+◌, ◌*◌, ◌^◌, ◌<◌, ◌≤◌, nat_lt, List, [], ◌∷◌, length, filter, Option, None, refl, sym, ap, subst, arith, inl, inr}
use Rattle.std.specs.Prelude.{slice_get, nat_le}
use Rattle.std.specs.List.{find, AllByRecursion}
use Rattle.std.proofs.lemmas.Bool.{cases_lt, lt-ltb, le-ltb, ltb-true, le-leb}
use Rattle.std.proofs.lemmas.List.{map-id}
use Rattle.skip_links.specs.Falling.{IsFalling}
use Rattle.skip_links.proofs.Falls.{all_lower, rest_falls}
use Rattle.skip_links.proofs.Towers.{filter_twice}
use Rattle.skip_links.specs.Towers.{tower}
use Rattle.skip_links.specs.Paths.{onward, path_from, links_among, path_over, digits_up_to, binary_digits}
use Rattle.skip_links.proofs.Bound.{next, walk, walk_on, walk_ends, walk_none, walk_bounded, late}
use Rattle.skip_links.proofs.PathTowers.{next_of, next_plain, next_of_none, next_keeps, next_answers, last_up_to, goes, goes_to}

-- ---- the versions before one of the blocks are those below it

filter_low : (c : ℕ) (rest : List ℕ) → AllByRecursion (λ (q : ℕ). q < c) rest → filter (λ (q : ℕ). nat_lt q c) rest ≡ rest
filter_low c [] low = refl
filter_low c (p ∷ rest) low = rw (lt-ltb p c low.0) (ap (λ (blocks : List ℕ). p ∷ blocks) (filter_low c rest low.1))

pub filter_first : (c : ℕ) (rest : List ℕ) → IsFalling (c ∷ rest) → filter (λ (q : ℕ). nat_lt q c) (c ∷ rest) ≡ rest
filter_first c rest falling = rw (le-ltb c c (omega arith)) (filter_low c rest (all_lower c rest falling))

-- These are the last of all blocks, and they fall.
pub record AreLast (all blocks : List ℕ) : Type 0 where
  pub falling : IsFalling blocks
  pub below : (u : ℕ) (rest : List ℕ) → blocks ≡ u ∷ rest → filter (λ (q : ℕ). nat_lt q u) all ≡ rest

same_first : (u v : ℕ) (rest other : List ℕ) → u ∷ rest ≡ v ∷ other → u ≡ v
same_first u v rest other e = cc

same_rest : (u v : ℕ) (rest other : List ℕ) → u ∷ rest ≡ v ∷ other → rest ≡ other
same_rest u v rest other e = cc

last_back : (all : List ℕ) (u : ℕ) (rest : List ℕ) → AreLast all (u ∷ rest) → AreLast all rest
last_back all u rest last = record {
  falling = rest_falls u rest last.falling;
  below = λ v older e.
      let is : filter (λ (q : ℕ). nat_lt q u) all ≡ v ∷ older = last.below u rest refl ∙ e in
      let falls : IsFalling (u ∷ v ∷ older) = rw e at last.falling in
      sym (filter_twice (λ (q : ℕ). nat_lt q v) (λ (q : ℕ). nat_lt q u) all (λ q lower. lt-ltb q u (omega (arith, ltb-true q v lower, falls.0))))
      ∙ ap (filter (λ (q : ℕ). nat_lt q v)) is ∙ filter_first v older falls.1;
}

all_last : (blocks : List ℕ) → IsFalling blocks → AreLast blocks blocks
all_last blocks falling = record {
  falling = falling;
  below = λ u rest e. ap (filter (λ (q : ℕ). nat_lt q u)) e ∙ filter_first u rest (rw e at falling);
}

last_next : (all : List ℕ) (t u : ℕ) (rest : List ℕ) → AreLast all rest → AreLast all (next t 32 u rest)
last_next all t u rest last = subst (AreLast all) (next_plain t 32 u rest) (next_keeps (λ (b : ℕ). b) (AreLast all) (last_back all) t 32 u rest last)

-- ---- a path is a walk

onward_is : (all : List ℕ) (t u : ℕ) (rest : List ℕ) → AreLast all (u ∷ rest) → onward (λ (b : ℕ). b) t (links_among all u) ≡ slice_get (next t 32 u rest) 0
onward_is all t u rest last =
    ap (λ (older : List ℕ). onward (λ (b : ℕ). b) t (tower (λ (b : ℕ). b) u older)) (last.below u rest refl)
    ∙ goes_to (next_of (λ (b : ℕ). b) t 32 u rest) rest (onward (λ (b : ℕ). b) t (tower (λ (b : ℕ). b) u rest))
    (goes (λ (b : ℕ). b) t u rest (rw (sym (map-id rest)) at last.falling))
    (λ none. ap (next_of (λ (b : ℕ). b) t 32 u) none ∙ next_of_none (λ (b : ℕ). b) t 32 u)
    ∙ ap (λ (blocks : List ℕ). slice_get blocks 0) (next_plain t 32 u rest)

pub ended : (n t : ℕ) (links_of : ℕ → List ℕ) → path_from n links_of t None ≡ []
unfolding path_from
ended zero t links_of = refl
ended (suc n) t links_of = refl

pub path_is_walk : (n t : ℕ) (all blocks : List ℕ) → AreLast all blocks → path_from n (links_among all) t (slice_get blocks 0) ≡ walk n t blocks
unfolding path_from walk
path_is_walk zero t all blocks last = refl
path_is_walk (suc n) t all [] last = refl
path_is_walk (suc n) t all (u ∷ rest) last = elim (cases_lt t u) [
  | inr low ↦ rw (le-leb u t low) (ap (λ (blocks : List ℕ). u ∷ blocks) (ended n t (links_among all)))
  | inl above ↦
      rw (late u t above) (ap (λ (blocks : List ℕ). u ∷ blocks) (
      ap (path_from n (links_among all) t) (onward_is all t u rest last)
      ∙ path_is_walk n t all (next t 32 u rest) (last_next all t u rest (last_back all u rest last))))
]

-- ---- how many blocks there may be

next_short : (t m u k : ℕ) (rest : List ℕ) → length rest ≤ k → length (next t m u rest) ≤ k
next_short t m u k rest short =
    subst (λ (blocks : List ℕ). length blocks ≤ k) (next_plain t m u rest)
    (next_keeps (λ (b : ℕ). b) (λ (blocks : List ℕ). length blocks ≤ k) (λ version older long. omega (arith, long)) t m u rest short)

pub walk_enough : (n m t : ℕ) (blocks : List ℕ) → length blocks ≤ n → length blocks ≤ m → walk n t blocks ≡ walk m t blocks
unfolding walk
walk_enough zero zero t blocks a b = refl
walk_enough zero (suc m) t [] a b = refl
walk_enough zero (suc m) t (u ∷ rest) a b = absurd (omega (arith, a))
walk_enough (suc n) zero t [] a b = refl
walk_enough (suc n) zero t (u ∷ rest) a b = absurd (omega (arith, b))
walk_enough (suc n) (suc m) t [] a b = refl
walk_enough (suc n) (suc m) t (u ∷ rest) a b = elim (cases_lt t u) [
  | inr low ↦ rw (le-leb u t low) refl
  | inl above ↦
      rw (late u t above) (ap (λ (blocks : List ℕ). u ∷ blocks)
      (walk_enough n m t (next t 32 u rest) (next_short t 32 u n rest (omega (arith, a))) (next_short t 32 u m rest (omega (arith, b)))))
]

pub over_is_walk : (t : ℕ) (blocks : List ℕ) → IsFalling blocks → path_over blocks t ≡ walk (length blocks) t blocks
unfolding path_over
over_is_walk t blocks falling = path_is_walk (length blocks) t blocks blocks (all_last blocks falling)

-- With more turns than blocks the path is the same.
pub over_with_more : (n t : ℕ) (blocks : List ℕ) → IsFalling blocks → length blocks ≤ n → path_from n (links_among blocks) t (slice_get blocks 0) ≡ path_over blocks t
over_with_more n t blocks falling short =
    path_is_walk n t blocks blocks (all_last blocks falling) ∙ walk_enough n (length blocks) t blocks short (omega arith) ∙ sym (over_is_walk t blocks falling)

-- ---- how long it may be

pub digits_hold : (d n : ℕ) → n < 2 ^ suc d → (n < 2 ^ digits_up_to d n) × (digits_up_to d n ≤ suc d)
unfolding digits_up_to
digits_hold zero n few = (few, omega arith)
digits_hold (suc d) n few = elim (cases_lt n (2 ^ suc d)) [
  | inl less ↦ let deep = digits_hold d n less in rw (lt-ltb n (2 ^ suc d) less) (deep.0, omega (arith, deep.1))
  | inr more ↦ rw (le-ltb n (2 ^ suc d) more) (few, omega arith)
]

pub path_over_short : (block : ℕ) (older : List ℕ) (at : ℕ) → IsFalling (block ∷ older) → block < 2 ^ 32 → length (path_over (block ∷ older) at) ≤ 2 * binary_digits block + 2
path_over_short block older at falling few =
    let digits = digits_hold 31 block few in
    rw (over_is_walk at (block ∷ older) falling) (walk_bounded (length (block ∷ older)) at (binary_digits block) block older falling digits.0 digits.1)

-- ---- where it ends

abbrev pub first_up_to : ℕ → List ℕ → Option ℕ
first_up_to t blocks = last_up_to (λ (b : ℕ). b) t blocks

next_latest : (t u : ℕ) (rest : List ℕ) → IsFalling rest → first_up_to t (next t 32 u rest) ≡ first_up_to t rest
next_latest t u rest falling =
    ap (first_up_to t) (sym (next_plain t 32 u rest)) ∙ next_answers (λ (b : ℕ). b) t 32 u rest (subst IsFalling (sym (map-id rest)) falling)

next_falls : (t u : ℕ) (rest : List ℕ) → IsFalling rest → IsFalling (next t 32 u rest)
next_falls t u rest falling = subst IsFalling (next_plain t 32 u rest) (next_keeps (λ (b : ℕ). b) IsFalling (λ version older falls. rest_falls version older falls) t 32 u rest falling)

passes : (t u : ℕ) (rest : List ℕ) → t < u → first_up_to t (u ∷ rest) ≡ first_up_to t rest
passes t u rest above = rw (late u t above) refl

pub walk_latest : (n t : ℕ) (blocks : List ℕ) → IsFalling blocks → length blocks ≤ n → first_up_to t (walk n t blocks) ≡ first_up_to t blocks
unfolding walk
walk_latest zero t [] falling short = refl
walk_latest zero t (u ∷ rest) falling short = absurd (omega (arith, short))
walk_latest (suc n) t [] falling short = refl
walk_latest (suc n) t (u ∷ rest) falling short = elim (cases_lt t u) [
  | inr low ↦ rw (le-leb u t low) refl
  | inl above ↦
      let falls = rest_falls u rest falling in
      ap (first_up_to t) (walk_on n t u rest above) ∙ passes t u (walk n t (next t 32 u rest)) above
      ∙ walk_latest n t (next t 32 u rest) (next_falls t u rest falls) (next_short t 32 u n rest (omega (arith, short)))
      ∙ next_latest t u rest falls ∙ sym (passes t u rest above)
]

pub path_over_latest : (blocks : List ℕ) (at : ℕ) → IsFalling blocks
    → find (λ (block : ℕ). nat_le block at) (path_over blocks at) ≡ find (λ (block : ℕ). nat_le block at) blocks
path_over_latest blocks at falling = ap (first_up_to at) (over_is_walk at blocks falling) ∙ walk_latest (length blocks) at blocks falling (omega arith)

-- ---- turn by turn

-- A version up to t ends the path.
pub over_ends : (t u : ℕ) (rest : List ℕ) → IsFalling (u ∷ rest) → u ≤ t → path_over (u ∷ rest) t ≡ u ∷ []
over_ends t u rest falling low = over_is_walk t (u ∷ rest) falling ∙ walk_ends (length rest) t u rest low

-- From one above t the path goes on where the lookup does.
pub over_on : (t u : ℕ) (rest : List ℕ) → IsFalling (u ∷ rest) → t < u → path_over (u ∷ rest) t ≡ u ∷ path_over (next t 32 u rest) t
over_on t u rest falling above =
    let falls = next_falls t u rest (rest_falls u rest falling) in
    over_is_walk t (u ∷ rest) falling ∙ walk_on (length rest) t u rest above
    ∙ ap (λ (blocks : List ℕ). u ∷ blocks)
    (walk_enough (length rest) (length (next t 32 u rest)) t (next t 32 u rest) (next_short t 32 u (length rest) rest (omega arith)) (omega arith)
    ∙ sym (over_is_walk t (next t 32 u rest) falls))

pub over_none : (t : ℕ) → path_over [] t ≡ []
over_none t = over_is_walk t [] tt ∙ walk_none 0 t
