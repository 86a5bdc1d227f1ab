-- Climbing level by level: a version stays if it is at the level, and else its highest link leads
-- to the one that is.
use Rattle.std.proofs.Common.{◌≡◌, ◌∙◌, ℕ, suc, ◌+◌, ◌-◌, ◌*◌, ◌^◌, ◌<◌, ◌≤◌, true, false, List, [], ◌∷◌, ◌++◌, length, Some, None, refl, sym, ap, subst, arith, inl, inr}
use Rattle.std.specs.Prelude.{slice_get, nat_lt, bit_xor}
use Rattle.std.specs.List.{filter_map, range_with_len, AllByRecursion}
use Rattle.std.proofs.lemmas.Bool.{cases_Bool, cases_lt, lt-ltb, le-ltb}
use Rattle.std.proofs.lemmas.Option.{same_Some, none-some}
use Rattle.skip_links.specs.Falling.{IsFalling, is_first}
use Rattle.skip_links.proofs.Falls.{all_lower}
use Rattle.skip_links.specs.declared.limits.TheConstants.{MAX_LEVEL}
use Rattle.skip_links.specs.Towers.{height_over, from_last, last_at, tower}
use Rattle.skip_links.proofs.PathLevels.{at_bottom, levels_below}
use Rattle.skip_links.proofs.PathTowers.{from_keeps, levels_more}
use Rattle.skip_list.proofs.LinkLevels.{from_here, from_older, from_again, is_at_level, highest_is_higher, has_link, levels_long, levels_top, at_height, height_least, height_over_is, height_fits}
use Rattle.skip_links.specs.Paths.{binary_digits}
use Rattle.entry_store.specs.declared.entry.EntryId.{EntryId}
use Rattle.entry_store.specs.declared.entry.Hop.{Hop}
use Rattle.entry_store.specs.declared.entry.Links.{Links}
use Rattle.entry_store.specs.Entries.{Entry}
use Rattle.skip_list.specs.declared.rung.Rung.{Rung}
use Rattle.skip_list.specs.Towered.{block_of, blocks_of, links_over, HaveTowers, IsTowered, AreOlder}
use Rattle.skip_list.proofs.Turns.{links_of, reads_towers, towers_back, falls_back}
use Rattle.skip_list.specs.Climbing.{rung_with, rung_over, beyond, IsAllBelow, IsLastAt}

-- ---- the links of one version

-- The height of a version over those before it.
abbrev height : Hop → List Hop → ℕ
height version older = height_over version.block (blocks_of older)

links_long : (version previous : Hop) (older : List Hop) → length (links_over version.block (previous ∷ older)) ≡ height version (previous ∷ older) + 1
unfolding tower
links_long version previous older = levels_long block_of (height version (previous ∷ older) + 1) previous older

links_top : (version previous : Hop) (older : List Hop)
    → slice_get (links_over version.block (previous ∷ older)) (height version (previous ∷ older)) ≡ last_at block_of (previous ∷ older) (height version (previous ∷ older))
unfolding tower
links_top version previous older = levels_top block_of (height version (previous ∷ older)) previous older

none_at_all : (levels : List ℕ) → filter_map (last_at block_of []) levels ≡ []
unfolding from_last
none_at_all [] = refl
none_at_all (level ∷ levels) = none_at_all levels

pub no_links : (block : ℕ) → links_over block [] ≡ []
unfolding tower
no_links block = none_at_all (range_with_len 0 (height_over block [] + 1))

-- ---- one rung

-- The highest link of a version that has one.
highest_link : (rung : Rung) (previous : Hop) (older : List Hop) → rung ≡ rung_over rung.version (previous ∷ older)
    → (rung.levels ≡ height rung.version (previous ∷ older) + 1) × (rung.highest ≡ last_at block_of (previous ∷ older) (height rung.version (previous ∷ older)))
highest_link rung previous older is =
    let h = height rung.version (previous ∷ older) in
    let long = links_long rung.version previous older in
    let last : length (links_over rung.version.block (previous ∷ older)) - 1 ≡ h = omega (arith, long) in (
      ap (λ (r : Rung). r.levels) is ∙ long,
      ap (λ (r : Rung). r.highest) is ∙ ap (slice_get (links_over rung.version.block (previous ∷ older))) last ∙ links_top rung.version previous older,
    )

-- A version at the level is the last one there.
pub stays : (entries : List Entry) (versions : List Hop) (level : ℕ) (rung : Rung) → IsAllBelow entries versions level rung → None ≡ beyond level rung → IsLastAt entries versions level rung
stays entries versions level rung below none = record {
  older = below.older;
  is = below.is;
  falling = below.falling;
  towers = below.towers;
  last = sym below.reach ∙ from_here block_of level rung.version below.older (on below.older below.is below.falling);
}
  where
    on : (older : List Hop) → rung ≡ rung_over rung.version older → IsFalling (blocks_of (rung.version ∷ older)) → is_first level rung.version.block (blocks_of older) ≡ true
    on [] is falling = refl
    on (previous ∷ older) is falling =
        let link = highest_link rung previous older is in
        let bottom = at_bottom rung.version.block (blocks_of (previous ∷ older)) falling in
        let tall = at_height MAX_LEVEL rung.version.block (blocks_of (previous ∷ older)) bottom in
        elim (cases_lt level rung.levels) [
          | inl lt ↦ levels_below (height rung.version (previous ∷ older)) rung.version.block (blocks_of (previous ∷ older)) tall level (omega (arith, lt, link.0))
          | inr ge ↦
              let some = has_link block_of (height rung.version (previous ∷ older)) previous older in
              let no_highest : None ≡ rung.highest = rw (le-ltb level rung.levels ge) at none in
              absurd (none-some some.0 (no_highest ∙ link.1 ∙ some.1))
        ]

beyond_none : (level : ℕ) (version : Hop) → beyond level (rung_with version []) ≡ None
beyond_none level version = elim (cases_Bool (nat_lt level 0)) [
  | inl lt ↦ rw lt refl
  | inr ge ↦ rw ge refl
]

split_first : {A : Type 0} (xs : List A) (x : A) → slice_get xs 0 ≡ Some x → (rest : List A) × (xs ≡ x ∷ rest)
split_first [] x e = absurd (none-some x e)
split_first {A = A} (y ∷ xs) x e = (xs, ap (λ (z : A). z ∷ xs) (same_Some y x e))

-- The last version at a level, and those before it, seen from a version in this block.
pub record Rises (entries : List Entry) (versions : List Hop) (level : ℕ) (higher : Hop) (from : ℕ) : Type 0 where
  pub older : List Hop
  pub falling : IsFalling (blocks_of (higher ∷ older))
  pub towers : HaveTowers entries (higher ∷ older)
  pub last : from_last block_of level versions ≡ higher ∷ older
  pub above : 0 < level
  pub lower : higher.block < from

-- From a version that isn't at the level the highest link leads to the last one there.
pub rises : (entries : List Entry) (versions : List Hop) (level : ℕ) (rung : Rung) (higher : Hop) → IsAllBelow entries versions level rung → level ≤ MAX_LEVEL
    → Some higher ≡ beyond level rung → Rises entries versions level higher rung.version.block
rises entries versions level rung higher below few some = on below.older below.is below.falling below.towers below.below below.reach
  where
    IsLower : List Hop → Type 0
    IsLower vs = AllByRecursion (λ (q : ℕ). q < rung.version.block) (blocks_of vs)

    on : (older : List Hop) → rung ≡ rung_over rung.version older → IsFalling (blocks_of (rung.version ∷ older)) → HaveTowers entries (rung.version ∷ older)
        → ((k : ℕ) → k < level → is_first k rung.version.block (blocks_of older) ≡ true)
        → from_last block_of level (rung.version ∷ older) ≡ from_last block_of level versions → Rises entries versions level higher rung.version.block
    on [] is falling towers low reach =
        let none : rung ≡ rung_with rung.version [] = is ∙ ap (rung_with rung.version) (no_links rung.version.block) in
        absurd (none-some higher (sym (beyond_none level rung.version) ∙ sym (some ∙ ap (beyond level) none)))
    on (previous ∷ older) is falling towers low reach =
        let h = height rung.version (previous ∷ older) in
        let link = highest_link rung previous older is in
        elim (cases_lt level rung.levels) [
          | inl lt ↦ absurd (none-some higher (sym (rw (lt-ltb level rung.levels lt) at some)))
          | inr ge ↦
              let under = level - 1 in
              let least = height_least MAX_LEVEL under rung.version.block (blocks_of (previous ∷ older)) (low under (omega (arith, ge, link.0))) (omega (arith, few)) in
              let at : level ≡ suc h = omega (arith, ge, link.0, least) in
              let off : is_first (suc h) rung.version.block (blocks_of (previous ∷ older)) ≡ false = elim (cases_Bool (is_first (suc h) rung.version.block (blocks_of (previous ∷ older)))) [
                | inl is_on ↦ absurd (omega (arith, height_least MAX_LEVEL (suc h) rung.version.block (blocks_of (previous ∷ older)) is_on (omega (arith, few, at))))
                | inr is_off ↦ is_off
              ] in
              let bottom = at_bottom rung.version.block (blocks_of (previous ∷ older)) falling in
              let tall = at_height MAX_LEVEL rung.version.block (blocks_of (previous ∷ older)) bottom in
              let highest : Some higher ≡ rung.highest = rw (le-ltb level rung.levels ge) at some in
              let found = split_first (from_last block_of h (previous ∷ older)) higher (sym link.1 ∙ sym highest) in
              let falls = from_keeps block_of (λ (vs : List Hop). IsFalling (blocks_of vs)) falls_back h (previous ∷ older) (falls_back rung.version (previous ∷ older) falling) in
              let have = from_keeps block_of (HaveTowers entries) (towers_back entries) h (previous ∷ older) (towers_back entries rung.version (previous ∷ older) towers) in
              record {
                older = found.0;
                falling = subst (λ (vs : List Hop). IsFalling (blocks_of vs)) found.1 falls;
                towers = subst (HaveTowers entries) found.1 have;
                last =
                    sym reach ∙ ap (λ (l : ℕ). from_last block_of l (rung.version ∷ previous ∷ older)) at
                    ∙ from_older block_of (suc h) rung.version (previous ∷ older) off
                    ∙ sym (highest_is_higher block_of h rung.version.block (previous ∷ older) falling tall off) ∙ found.1;
                above = omega (arith, at);
                lower = (subst IsLower found.1 (from_keeps block_of IsLower (λ (v : Hop) (vs : List Hop) each. each.1) h (previous ∷ older)
                    (all_lower rung.version.block (blocks_of (previous ∷ older)) falling))).0;
              }
        ]

-- What was read of that version is the rung of the level.
pub risen : (entries : List Entry) (versions : List Hop) (level : ℕ) (higher : Hop) (from : ℕ) (rung : Rung) (r : Rises entries versions level higher from) → rung ≡ rung_over higher r.older → IsLastAt entries versions level rung
risen entries versions level higher from rung r is =
    let same : higher ≡ rung.version = sym (ap (λ (x : Rung). x.version) is) in
    record {
      older = r.older;
      is = is ∙ ap (λ (v : Hop). rung_over v r.older) same;
      falling = subst (λ (v : Hop). IsFalling (blocks_of (v ∷ r.older))) same r.falling;
      towers = subst (λ (v : Hop). HaveTowers entries (v ∷ r.older)) same r.towers;
      last = r.last ∙ ap (λ (v : Hop). v ∷ r.older) same;
    }

-- ---- level by level

pub next_level : (entries : List Entry) (versions : List Hop) (level : ℕ) (rung : Rung) → IsLastAt entries versions level rung → IsAllBelow entries versions (level + 1) rung
next_level entries versions level rung at =
    let same : level + 1 ≡ suc level = omega arith in
    record {
      older = at.older;
      is = at.is;
      falling = at.falling;
      towers = at.towers;
      below = λ k less. levels_below level rung.version.block (blocks_of at.older) (is_at_level block_of level versions rung.version at.older at.last) k (omega (arith, less));
      reach = rw same (ap (from_last block_of (suc level)) (sym at.last) ∙ from_again block_of level versions);
    }

pub level_link : (entries : List Entry) (versions : List Hop) (level : ℕ) (rung : Rung) (links : List Hop) → IsLastAt entries versions level rung
    → links ≡ filter_map (last_at block_of versions) (range_with_len 0 level)
    → links ++ rung.version ∷ [] ≡ filter_map (last_at block_of versions) (range_with_len 0 (level + 1))
level_link entries versions level rung links at are =
    let link : last_at block_of versions level ≡ Some rung.version = ap (λ (vs : List Hop). slice_get vs 0) at.last in
    rw (levels_more (last_at block_of versions) level, link) (ap (λ (all : List Hop). all ++ rung.version ∷ []) are)

-- The first rung is the newest version.
pub bottom_rung : (entries : List Entry) (id : EntryId) (versions : List Hop) (rung : Rung) → IsTowered entries id versions
    → ((version : Hop) (older : List Hop) → version.id ≡ id → HaveTowers entries (version ∷ older) → rung ≡ rung_over version older) → IsAllBelow entries versions 0 rung
bottom_rung entries id [] rung towered reads = absurd (none-some id towered.newest)
bottom_rung entries id (version ∷ older) rung towered reads =
    let is = reads version older (same_Some version.id id towered.newest) towered.towers in
    let same : version ≡ rung.version = sym (ap (λ (r : Rung). r.version) is) in
    record {
      older = older;
      is = is ∙ ap (λ (v : Hop). rung_over v older) same;
      falling = subst (λ (v : Hop). IsFalling (blocks_of (v ∷ older))) same towered.falling;
      towers = subst (λ (v : Hop). HaveTowers entries (v ∷ older)) same towered.towers;
      below = λ k less. absurd (omega (arith, less));
      reach = ap (λ (v : Hop). from_last block_of 0 (v ∷ older)) (sym same);
    }

pub newest_below : (entries : List Entry) (id : EntryId) (versions : List Hop) (rung : Rung) (block : ℕ) → IsTowered entries id versions → AreOlder block versions
    → ((version : Hop) (older : List Hop) → version.id ≡ id → HaveTowers entries (version ∷ older) → rung ≡ rung_over version older) → rung.version.block < block
newest_below entries id [] rung block towered before reads = absurd (none-some id towered.newest)
newest_below entries id (version ∷ older) rung block towered before reads =
    let is = reads version older (same_Some version.id id towered.newest) towered.towers in
    rw (ap (λ (r : Rung). r.version.block) is) before.0

-- The links up to the height are the tower.
pub all_links : (entries : List Entry) (id : EntryId) (versions : List Hop) (rung : Rung) (block h : ℕ) (links : List Hop) → IsTowered entries id versions → AreOlder block versions
    → ((version : Hop) (older : List Hop) → version.id ≡ id → HaveTowers entries (version ∷ older) → rung ≡ rung_over version older)
    → 2 ^ h ≤ bit_xor rung.version.block block → bit_xor rung.version.block block < 2 * 2 ^ h → h ≤ MAX_LEVEL
    → links ≡ filter_map (last_at block_of versions) (range_with_len 0 (h + 1)) → links ≡ links_over block versions
unfolding tower
all_links entries id [] rung block h links towered before reads low high few are = absurd (none-some id towered.newest)
all_links entries id (version ∷ older) rung block h links towered before reads low high few are =
    let is = reads version older (same_Some version.id id towered.newest) towered.towers in
    let same : rung.version.block ≡ version.block = ap (λ (r : Rung). r.version.block) is in
    are ∙ ap (λ (n : ℕ). filter_map (last_at block_of (version ∷ older)) (range_with_len 0 (n + 1)))
    (sym (height_over_is h block version.block (blocks_of older) before.0 (rw same at low) (rw same at high) few))

pub first_has_no_links : (block : ℕ) (versions : List Hop) → versions ≡ [] → [] ≡ links_over block versions
first_has_no_links block versions none = sym (ap (links_over block) none ∙ no_links block)

-- ---- what is read

pub read_rung : (entries : List Entry) (id : EntryId) (version : Hop) (older : List Hop) (links : Links) → version.id ≡ id → HaveTowers entries (version ∷ older)
    → links_of (slice_get entries id.0) ≡ Some links → rung_with (record { block = links.block; id = id }) links.hops ≡ rung_over version older
read_rung entries id version older links same towers read =
    let is = reads_towers entries version older links towers (ap (λ (i : EntryId). links_of (slice_get entries i.0)) same ∙ read) in
    ap (λ (l : Links). rung_with (record { block = l.block; id = id }) l.hops) is ∙ ap (λ (i : EntryId). rung_with (record { block = version.block; id = i }) (links_over version.block older)) (sym same)

pub newest_read : (entries : List Entry) (id : EntryId) (versions : List Hop) → IsTowered entries id versions
    → (version : Hop) × (older : List Hop) × (version.id ≡ id) × HaveTowers entries (version ∷ older)
newest_read entries id [] towered = absurd (none-some id towered.newest)
newest_read entries id (version ∷ older) towered = (version, older, same_Some version.id id towered.newest, towered.towers)

-- There are at most as many links up to the height as the block has binary digits.
pub levels_fit : (entries : List Entry) (id : EntryId) (versions : List Hop) (rung : Rung) (block h : ℕ) → IsTowered entries id versions → AreOlder block versions
    → ((version : Hop) (older : List Hop) → version.id ≡ id → HaveTowers entries (version ∷ older) → rung ≡ rung_over version older)
    → block < 2 ^ 32 → 2 ^ h ≤ bit_xor rung.version.block block → h + 1 ≤ binary_digits block
levels_fit entries id versions rung block h towered before reads few low =
    let below = newest_below entries id versions rung block towered before reads in
    omega (arith, height_fits h rung.version.block block below few low)
