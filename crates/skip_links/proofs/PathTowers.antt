-- Towers: the links of a version, level by level, and where a lookup goes on to by them.
use Rattle.std.proofs.Common.{◌≡◌, ◌∙◌, ℕ, zero, suc, ◌+◌, ◌<◌, ◌⊎◌, ◌&&◌, true, false, cond, nat_lt, List, [], ◌∷◌, ◌++◌, map, reverse, Option, Some, None, refl, sym, ap, subst, arith, inl, inr}
use Rattle.std.specs.Prelude.{slice_get, nat_le, if◌then◌else◌}
use Rattle.std.specs.List.{find, filter_map, cons_option, range_with_len, AllByRecursion}
use Rattle.std.specs.Option.{option_map, option_or, option_to_list}
use Rattle.std.proofs.lemmas.Option.{none-some, same_Some}
use Rattle.std.proofs.lemmas.Bool.{cases_Bool, cases_lt, and_from, and_left, and_right, and_parts}
use Rattle.std.proofs.lemmas.List.{append-nil, map-id, reverse-append}
use Rattle.std.proofs.lemmas.List.Elements.{filter_map-append}
use Rattle.skip_links.specs.Falling.{IsFalling, is_first, from_level}
use Rattle.skip_links.proofs.Falls.{rest_falls}
use Rattle.skip_links.proofs.Lists.{range_more}
use Rattle.skip_links.specs.Towers.{height_up_to, height_over, from_last, last_at, tower}
use Rattle.skip_links.specs.Paths.{onward}
use Rattle.skip_links.proofs.PathLevels.{IsAt, at_bottom, levels_below, stays_low}
use Rattle.skip_links.proofs.Bound.{is_above, next, late, not_above}

-- ---- versions and their blocks

-- Where a lookup goes on to, over versions.
unfoldable pub next_of : {A : Type 0} → (A → ℕ) → ℕ → ℕ → ℕ → List A → List A
next_of block_of t zero u rest = rest
next_of block_of t (suc level) u rest =
    if is_first level u (map block_of rest) && is_above t (map block_of (from_last block_of level rest)) then from_last block_of level rest else next_of block_of t level u rest

pub map_from : {A : Type 0} (block_of : A → ℕ) (level : ℕ) (versions : List A) → map block_of (from_last block_of level versions) ≡ from_level level (map block_of versions)
unfolding from_last from_level
map_from block_of level [] = refl
map_from block_of level (version ∷ older) = elim (cases_Bool (is_first level (block_of version) (map block_of older))) [
  | inl on ↦ rw on refl
  | inr off ↦ rw off (map_from block_of level older)
]

pub map_next : {A : Type 0} (block_of : A → ℕ) (t level u : ℕ) (rest : List A) → map block_of (next_of block_of t level u rest) ≡ next t level u (map block_of rest)
unfolding next_of next
map_next block_of t zero u rest = refl
map_next block_of t (suc level) u rest =
    let from = map_from block_of level rest in
    elim (cases_Bool (is_first level u (map block_of rest) && is_above t (from_level level (map block_of rest)))) [
      | inl on ↦ rw (from, on) from
      | inr off ↦ rw (from, off) (map_next block_of t level u rest)
    ]

pub next_plain : (t level u : ℕ) (rest : List ℕ) → next_of (λ (b : ℕ). b) t level u rest ≡ next t level u rest
next_plain t level u rest =
    sym (map-id (next_of (λ (b : ℕ). b) t level u rest)) ∙ map_next (λ (b : ℕ). b) t level u rest ∙ ap (next t level u) (map-id rest)

pub from_plain : (level : ℕ) (blocks : List ℕ) → from_last (λ (b : ℕ). b) level blocks ≡ from_level level blocks
from_plain level blocks = sym (map-id (from_last (λ (b : ℕ). b) level blocks)) ∙ map_from (λ (b : ℕ). b) level blocks ∙ ap (from_level level) (map-id blocks)

-- What holds of versions and of those before each of them holds where a lookup goes on to.
pub from_keeps : {A : Type 0} (block_of : A → ℕ) (P : List A → Type 0) → ((version : A) (older : List A) → P (version ∷ older) → P older) → (level : ℕ) (versions : List A) → P versions → P (from_last block_of level versions)
unfolding from_last
from_keeps block_of P back level [] holds = holds
from_keeps block_of P back level (version ∷ older) holds = elim (cases_Bool (is_first level (block_of version) (map block_of older))) [
  | inl on ↦ rw on holds
  | inr off ↦ rw off (from_keeps block_of P back level older (back version older holds))
]

pub next_keeps : {A : Type 0} (block_of : A → ℕ) (P : List A → Type 0) → ((version : A) (older : List A) → P (version ∷ older) → P older) → (t level u : ℕ) (rest : List A) → P rest → P (next_of block_of t level u rest)
unfolding next_of
next_keeps block_of P back t zero u rest holds = holds
next_keeps block_of P back t (suc level) u rest holds = elim (cases_Bool (is_first level u (map block_of rest) && is_above t (map block_of (from_last block_of level rest)))) [
  | inl on ↦ rw on (from_keeps block_of P back level rest holds)
  | inr off ↦ rw off (next_keeps block_of P back t level u rest holds)
]

-- ---- the answer

-- The last of some versions that is in a block up to t.
abbrev pub last_up_to : {A : Type 0} → (A → ℕ) → ℕ → List A → Option A
last_up_to block_of t versions = find (λ version. nat_le (block_of version) t) versions

passes : {A : Type 0} (block_of : A → ℕ) (t : ℕ) (version : A) (older : List A) → t < block_of version → last_up_to block_of t (version ∷ older) ≡ last_up_to block_of t older
passes block_of t version older above = rw (late (block_of version) t above) refl

from_answers : {A : Type 0} (block_of : A → ℕ) (t level : ℕ) (versions : List A) → IsFalling (map block_of versions)
    → is_above t (map block_of (from_last block_of level versions)) ≡ true → last_up_to block_of t (from_last block_of level versions) ≡ last_up_to block_of t versions
unfolding from_last
from_answers block_of t level [] falling above = refl
from_answers block_of t level (version ∷ older) falling above = elim (cases_Bool (is_first level (block_of version) (map block_of older))) [
  | inl on ↦ rw on refl
  | inr off ↦ elim (cases_lt t (block_of version)) [
    | inl lt ↦
        let rest = rest_falls (block_of version) (map block_of older) falling in
        rw off (from_answers block_of t level older rest (rw off at above) ∙ sym (passes block_of t version older lt))
    | inr le ↦
        let low = stays_low level t (map block_of (version ∷ older)) falling le in
        let none = not_above t (from_level level (map block_of (version ∷ older))) low in
        absurd (let some = ap (is_above t) (sym (map_from block_of level (version ∷ older))) ∙ above in cc)
  ]
]

pub next_answers : {A : Type 0} (block_of : A → ℕ) (t level u : ℕ) (rest : List A) → IsFalling (map block_of rest)
    → last_up_to block_of t (next_of block_of t level u rest) ≡ last_up_to block_of t rest
unfolding next_of
next_answers block_of t zero u rest falling = refl
next_answers block_of t (suc level) u rest falling = elim (cases_Bool (is_first level u (map block_of rest) && is_above t (map block_of (from_last block_of level rest)))) [
  | inl on ↦
      let above = (and_parts (is_first level u (map block_of rest)) (is_above t (map block_of (from_last block_of level rest))) on).1 in
      rw on (from_answers block_of t level rest falling above)
  | inr off ↦ rw off (next_answers block_of t level u rest falling)
]

-- ---- a tower, level by level

-- The links below a level.
unfoldable pub tower_below : {A : Type 0} → (A → ℕ) → ℕ → ℕ → List A → List A
tower_below block_of zero u rest = []
tower_below block_of (suc level) u rest =
    if is_first level u (map block_of rest) then tower_below block_of level u rest ++ option_to_list (last_at block_of rest level) else tower_below block_of level u rest

below_on : {A : Type 0} (block_of : A → ℕ) (level u : ℕ) (rest : List A) → IsAt level u (map block_of rest)
    → tower_below block_of (suc level) u rest ≡ tower_below block_of level u rest ++ option_to_list (last_at block_of rest level)
unfolding tower_below
below_on block_of level u rest on = rw on refl

below_off : {A : Type 0} (block_of : A → ℕ) (level u : ℕ) (rest : List A) → is_first level u (map block_of rest) ≡ false
    → tower_below block_of (suc level) u rest ≡ tower_below block_of level u rest
unfolding tower_below
below_off block_of level u rest off = rw off refl

one_link : {A : Type 0} (link_at : ℕ → Option A) (level : ℕ) (link : Option A) → link_at level ≡ link → filter_map link_at (level ∷ []) ≡ option_to_list link
one_link link_at level None e = rw e refl
one_link link_at level (Some version) e = rw e refl

pub levels_more : {A : Type 0} (link_at : ℕ → Option A) (n : ℕ) → filter_map link_at (range_with_len 0 (n + 1)) ≡ filter_map link_at (range_with_len 0 n) ++ option_to_list (link_at n)
levels_more {A = A} link_at n =
    let e : 0 + n ≡ n = omega arith in
    ap (filter_map link_at) (range_more 0 n ∙ ap (λ (level : ℕ). range_with_len 0 n ++ level ∷ []) e)
    ∙ filter_map-append link_at (range_with_len 0 n) (n ∷ [])
    ∙ ap (λ (links : List A). filter_map link_at (range_with_len 0 n) ++ links) (one_link link_at n (link_at n) refl)

all_levels : {A : Type 0} (block_of : A → ℕ) (n u : ℕ) (rest : List A) → ((level : ℕ) → level < n → IsAt level u (map block_of rest))
    → filter_map (last_at block_of rest) (range_with_len 0 n) ≡ tower_below block_of n u rest
unfolding tower_below
all_levels block_of zero u rest on = refl
all_levels {A = A} block_of (suc n) u rest on =
    let e : suc n ≡ n + 1 = omega arith in
    ap (λ (m : ℕ). filter_map (last_at block_of rest) (range_with_len 0 m)) e
    ∙ levels_more (last_at block_of rest) n
    ∙ ap (λ (links : List A). links ++ option_to_list (last_at block_of rest n)) (all_levels block_of n u rest (λ level below. on level (omega arith)))
    ∙ sym (below_on block_of n u rest (on n (omega arith)))

levels_to_height : {A : Type 0} (block_of : A → ℕ) (top u : ℕ) (rest : List A) → IsAt 0 u (map block_of rest)
    → filter_map (last_at block_of rest) (range_with_len 0 (height_up_to top u (map block_of rest) + 1)) ≡ tower_below block_of (suc top) u rest
unfolding height_up_to
levels_to_height block_of zero u rest bottom = all_levels block_of 1 u rest (λ level below. let e : level ≡ 0 = omega arith in rw e bottom)
levels_to_height {A = A} block_of (suc top) u rest bottom = elim (cases_Bool (is_first (suc top) u (map block_of rest))) [
  | inl on ↦
      let e : suc top + 1 ≡ suc (suc top) = omega arith in
      rw (on, e) (all_levels block_of (suc (suc top)) u rest (levels_below (suc top) u (map block_of rest) on))
  | inr off ↦ rw off (levels_to_height block_of top u rest bottom ∙ sym (below_off block_of (suc top) u rest off))
]

pub tower_is_below : {A : Type 0} (block_of : A → ℕ) (u : ℕ) (rest : List A) → IsFalling (u ∷ map block_of rest) → tower block_of u rest ≡ tower_below block_of 32 u rest
unfolding tower
tower_is_below block_of u rest falling = levels_to_height block_of 31 u rest (at_bottom u (map block_of rest) falling)

-- ---- where the links lead

-- A lookup goes on by the link that was found, or to the version before if none was.
abbrev Leads : {A : Type 0} → List A → List A → Option A → Type 0
Leads to rest None = to ≡ rest
Leads {A} to rest (Some version) = (older : List A) × (to ≡ version ∷ older)

abbrev found : {A : Type 0} → (A → ℕ) → ℕ → List A → Option A
found block_of t links = find (λ version. nat_lt t (block_of version)) (reverse links)

next_on : {A : Type 0} (block_of : A → ℕ) (t level u : ℕ) (rest : List A) → is_first level u (map block_of rest) ≡ true
    → is_above t (map block_of (from_last block_of level rest)) ≡ true → next_of block_of t (suc level) u rest ≡ from_last block_of level rest
unfolding next_of
next_on block_of t level u rest on above = rw (and_from (is_first level u (map block_of rest)) (is_above t (map block_of (from_last block_of level rest))) on above) refl

next_low : {A : Type 0} (block_of : A → ℕ) (t level u : ℕ) (rest : List A)
    → is_above t (map block_of (from_last block_of level rest)) ≡ false → next_of block_of t (suc level) u rest ≡ next_of block_of t level u rest
unfolding next_of
next_low block_of t level u rest low = rw (and_right (is_first level u (map block_of rest)) (is_above t (map block_of (from_last block_of level rest))) low) refl

next_off : {A : Type 0} (block_of : A → ℕ) (t level u : ℕ) (rest : List A) → is_first level u (map block_of rest) ≡ false
    → next_of block_of t (suc level) u rest ≡ next_of block_of t level u rest
unfolding next_of
next_off block_of t level u rest off = rw (and_left (is_first level u (map block_of rest)) (is_above t (map block_of (from_last block_of level rest))) off) refl

found_more : {A : Type 0} (block_of : A → ℕ) (t : ℕ) (links : List A) (version : A) → found block_of t (links ++ version ∷ []) ≡ cond (nat_lt t (block_of version)) (Some version) (found block_of t links)
found_more block_of t links version = ap (find (λ other. nat_lt t (block_of other))) (reverse-append links (version ∷ []))

leads_on : {A : Type 0} (block_of : A → ℕ) (t level u : ℕ) (rest : List A) → is_first level u (map block_of rest) ≡ true
    → Leads (next_of block_of t level u rest) rest (found block_of t (tower_below block_of level u rest))
    → (last : List A) → from_last block_of level rest ≡ last
    → Leads (next_of block_of t (suc level) u rest) rest (found block_of t (tower_below block_of level u rest ++ option_to_list (slice_get last 0)))
leads_on {A = A} block_of t level u rest on leads [] e =
    rw (append-nil (tower_below block_of level u rest), next_low block_of t level u rest (ap (λ (vs : List A). is_above t (map block_of vs)) e)) leads
leads_on {A = A} block_of t level u rest on leads (version ∷ older) e =
    rw (found_more block_of t (tower_below block_of level u rest) version) (elim (cases_Bool (nat_lt t (block_of version))) [
      | inl above ↦ rw above (older, next_on block_of t level u rest on (ap (λ (vs : List A). is_above t (map block_of vs)) e ∙ above) ∙ e)
      | inr low ↦ rw (low, next_low block_of t level u rest (ap (λ (vs : List A). is_above t (map block_of vs)) e ∙ low)) leads
    ])

leads : {A : Type 0} (block_of : A → ℕ) (t level u : ℕ) (rest : List A) → Leads (next_of block_of t level u rest) rest (found block_of t (tower_below block_of level u rest))
unfolding next_of tower_below
leads block_of t zero u rest = refl
leads {A = A} block_of t (suc level) u rest = elim (cases_Bool (is_first level u (map block_of rest))) [
  | inl on ↦
      subst (λ (links : List A). Leads (next_of block_of t (suc level) u rest) rest (found block_of t links)) (sym (below_on block_of level u rest on))
      (leads_on block_of t level u rest on (leads block_of t level u rest) (from_last block_of level rest) refl)
  | inr off ↦
      subst (λ (links : List A). Leads (next_of block_of t (suc level) u rest) rest (found block_of t links)) (sym (below_off block_of level u rest off))
      (subst (λ (to : List A). Leads to rest (found block_of t (tower_below block_of level u rest))) (sym (next_off block_of t level u rest off)) (leads block_of t level u rest))
]

-- The first link is to the version before.
no_links : {A : Type 0} (block_of : A → ℕ) (level u : ℕ) → tower_below {A = A} block_of level u [] ≡ []
unfolding tower_below from_last
no_links block_of zero u = refl
no_links block_of (suc level) u = rw (no_links block_of level u) refl

from_itself : {A : Type 0} (block_of : A → ℕ) (version : A) (older : List A) → IsFalling (map block_of (version ∷ older)) → slice_get (from_last block_of 0 (version ∷ older)) 0 ≡ Some version
unfolding from_last
from_itself block_of version older falling = rw (at_bottom (block_of version) (map block_of older) falling) refl

first_more : {A : Type 0} (links : List A) (more : List A) (first : A) → slice_get links 0 ≡ Some first → slice_get (links ++ more) 0 ≡ Some first
first_more [] more first e = absurd cc
first_more (link ∷ links) more first e = e

first_link : {A : Type 0} (block_of : A → ℕ) (level u : ℕ) (version : A) (older : List A) → IsFalling (u ∷ map block_of (version ∷ older))
    → slice_get (tower_below block_of (suc level) u (version ∷ older)) 0 ≡ Some version
unfolding tower_below
first_link {A = A} block_of zero u version older falling =
    rw (at_bottom u (map block_of (version ∷ older)) falling, from_itself block_of version older falling.1) refl
first_link {A = A} block_of (suc level) u version older falling =
    let before = first_link block_of level u version older falling in
    elim (cases_Bool (is_first (suc level) u (map block_of (version ∷ older)))) [
      | inl on ↦
          ap (λ (links : List A). slice_get links 0) (below_on block_of (suc level) u (version ∷ older) on)
          ∙ first_more (tower_below block_of (suc level) u (version ∷ older)) (option_to_list (last_at block_of (version ∷ older) (suc level))) version before
      | inr off ↦ ap (λ (links : List A). slice_get links 0) (below_off block_of (suc level) u (version ∷ older) off) ∙ before
    ]

-- Where the lookup goes on to, as the links say: nowhere if there is no version before.
abbrev pub Goes : {A : Type 0} → List A → List A → Option A → Type 0
Goes to rest None = rest ≡ []
Goes {A} to rest (Some version) = (older : List A) × (to ≡ version ∷ older)

goes_first : {A : Type 0} (to rest links : List A) (link : Option A)
    → ((rest ≡ []) × (links ≡ [])) ⊎ ((version : A) × (older : List A) × (rest ≡ version ∷ older) × (slice_get links 0 ≡ Some version))
    → Leads to rest link → Goes to rest (option_or link (slice_get links 0))
goes_first to rest links (Some version) shape is = is
goes_first to rest links None (inl none) is = rw none.1 none.0
goes_first to rest links None (inr some) is = rw some.3 (some.1, is ∙ some.2)

shape : {A : Type 0} (block_of : A → ℕ) (u : ℕ) (rest : List A) → IsFalling (u ∷ map block_of rest)
    → ((rest ≡ []) × (tower_below block_of 32 u rest ≡ [])) ⊎ ((version : A) × (older : List A) × (rest ≡ version ∷ older) × (slice_get (tower_below block_of 32 u rest) 0 ≡ Some version))
shape block_of u [] falling = inl (refl, no_links block_of 32 u)
shape block_of u (version ∷ older) falling = inr (version, older, refl, first_link block_of 31 u version older falling)

-- By its links a lookup goes on to where the highest level that leads above t leads.
pub goes : {A : Type 0} (block_of : A → ℕ) (t u : ℕ) (rest : List A) → IsFalling (u ∷ map block_of rest)
    → Goes (next_of block_of t 32 u rest) rest (onward block_of t (tower block_of u rest))
goes {A = A} block_of t u rest falling =
    subst (λ (links : List A). Goes (next_of block_of t 32 u rest) rest (onward block_of t links)) (sym (tower_is_below block_of u rest falling))
    (goes_first (next_of block_of t 32 u rest) rest (tower_below block_of 32 u rest) (found block_of t (tower_below block_of 32 u rest)) (shape block_of u rest falling) (leads block_of t 32 u rest))

pub next_of_none : {A : Type 0} (block_of : A → ℕ) (t level u : ℕ) → next_of {A = A} block_of t level u [] ≡ []
unfolding next_of from_last
next_of_none block_of t zero u = refl
next_of_none block_of t (suc level) u = next_of_none block_of t level u

-- The link that a lookup takes is the first of the versions that it goes on to.
pub goes_to : {A : Type 0} (to rest : List A) (link : Option A) → Goes to rest link → (rest ≡ [] → to ≡ []) → link ≡ slice_get to 0
goes_to {A = A} to rest None is none = let e : to ≡ [] = none is in ap (λ (vs : List A). slice_get vs 0) (sym e)
goes_to {A = A} to rest (Some version) is none = ap (λ (vs : List A). slice_get vs 0) (sym is.1)

-- ---- the blocks of a tower

first_mapped : {A : Type 0} (block_of : A → ℕ) (versions : List A) → option_map block_of (slice_get versions 0) ≡ slice_get (map block_of versions) 0
first_mapped block_of [] = refl
first_mapped block_of (version ∷ older) = refl

map_last : {A : Type 0} (block_of : A → ℕ) (level : ℕ) (versions : List A) → option_map block_of (last_at block_of versions level) ≡ last_at (λ (b : ℕ). b) (map block_of versions) level
map_last block_of level versions =
    first_mapped block_of (from_last block_of level versions)
    ∙ ap (λ (blocks : List ℕ). slice_get blocks 0) (map_from block_of level versions ∙ sym (from_plain level (map block_of versions)))

map_levels : {A : Type 0} (block_of : A → ℕ) (versions : List A) (levels : List ℕ)
    → map block_of (filter_map (last_at block_of versions) levels) ≡ filter_map (last_at (λ (b : ℕ). b) (map block_of versions)) levels
map_levels block_of versions [] = refl
map_levels {A = A} block_of versions (level ∷ levels) =
    map_cons block_of (last_at block_of versions level) (filter_map (last_at block_of versions) levels)
    ∙ ap (λ (link : Option ℕ). cons_option link (map block_of (filter_map (last_at block_of versions) levels))) (map_last block_of level versions)
    ∙ ap (cons_option (last_at (λ (b : ℕ). b) (map block_of versions) level)) (map_levels block_of versions levels)
  where
    map_cons : {A : Type 0} (f : A → ℕ) (link : Option A) (links : List A) → map f (cons_option link links) ≡ cons_option (option_map f link) (map f links)
    map_cons f None links = refl
    map_cons f (Some version) links = refl

pub map_tower : {A : Type 0} (block_of : A → ℕ) (u : ℕ) (versions : List A) → map block_of (tower block_of u versions) ≡ tower (λ (b : ℕ). b) u (map block_of versions)
unfolding tower
map_tower block_of u versions =
    map_levels block_of versions (range_with_len 0 (height_over u (map block_of versions) + 1))
    ∙ ap (λ (blocks : List ℕ). filter_map (last_at (λ (b : ℕ). b) (map block_of versions)) (range_with_len 0 (height_over u blocks + 1))) (sym (map-id (map block_of versions)))

-- ---- what holds of all versions holds of all links

link_holds : {A : Type 0} (P : A → Type 0) (versions : List A) (version : A) → AllByRecursion P versions → slice_get versions 0 ≡ Some version → P version
link_holds P [] version all e = absurd (none-some version e)
link_holds P (first ∷ versions) version all e = subst P (same_Some first version e) all.0

levels_hold : {A : Type 0} (block_of : A → ℕ) (P : A → Type 0) (versions : List A) (levels : List ℕ) → AllByRecursion P versions
    → AllByRecursion P (filter_map (last_at block_of versions) levels)
levels_hold block_of P versions [] all = tt
levels_hold {A = A} block_of P versions (level ∷ levels) all = on (last_at block_of versions level) refl (levels_hold block_of P versions levels all)
  where
    on : (link : Option A) → last_at block_of versions level ≡ link → AllByRecursion P (filter_map (last_at block_of versions) levels)
        → AllByRecursion P (filter_map (last_at block_of versions) (level ∷ levels))
    on None e rest = rw e rest
    on (Some version) e rest =
        let there = from_keeps block_of (λ (vs : List A). AllByRecursion P vs) (λ first older each. each.1) level versions all in
        rw e (link_holds P (from_last block_of level versions) version there e, rest)

pub tower_holds : {A : Type 0} (block_of : A → ℕ) (P : A → Type 0) (u : ℕ) (versions : List A) → AllByRecursion P versions → AllByRecursion P (tower block_of u versions)
unfolding tower
tower_holds block_of P u versions all = levels_hold block_of P versions (range_with_len 0 (height_over u (map block_of versions) + 1)) all
