-- A lookup, turn by turn: its answer stays, and the versions that were read and the rest of the
-- path are the path.
use Rattle.std.proofs.Common.{◌≡◌, ◌∙◌, ℕ, suc, ◌+◌, ◌^◌, ◌<◌, ◌≤◌, ◌⊎◌, List, [], ◌∷◌, length, Option, Some, None, refl, sym, ap, subst, arith, inl, inr}
use Rattle.std.specs.Prelude.{nat_le}
use Rattle.std.specs.List.{find}
use Rattle.std.specs.Option.{option_map}
use Rattle.std.proofs.lemmas.Bool.{cases_lt, le-leb}
use Rattle.std.proofs.lemmas.Option.{none-some}
use Rattle.skip_links.specs.Falling.{IsFalling}
use Rattle.skip_links.specs.Paths.{onward, path_over}
use Rattle.skip_links.proofs.Falls.{rest_falls}
use Rattle.skip_links.proofs.Bound.{late, next_none}
use Rattle.skip_links.proofs.PathTowers.{next_of, next_answers, map_next, goes, Goes}
use Rattle.skip_links.proofs.Walks.{over_ends, over_on, over_none, path_over_short}
use Rattle.entry_store.specs.declared.entry.EntryId.{EntryId}
use Rattle.entry_store.specs.declared.entry.Hop.{Hop}
use Rattle.entry_store.specs.Entries.{Entry}
use Rattle.entry_store.specs.Steps.{raised_count}
use Rattle.skip_list.specs.declared.lookup.Turn.TheVariants as turns
use Rattle.skip_list.specs.Towered.{block_of, blocks_of, links_over, IsTowered}
use Rattle.skip_list.specs.Lookups.{turn_at, turn_by, latest_version, most_steps}
use Rattle.skip_list.proofs.Turns.{leads_to}

-- ---- what a turn was

-- From a version above `at` a lookup goes on by a hop to older versions.
record WasHop (at : ℕ) (version : Hop) (older : List Hop) (id : EntryId) : Type 0 where
  above : at < version.block
  hop : Hop
  is : onward block_of at (links_over version.block older) ≡ Some hop
  id_is : hop.id ≡ id

was_answer : (at : ℕ) (version : Hop) (older : List Hop) → turns.Answer ≡ turn_at at (version ∷ older) → version.block ≤ at
was_answer at version older e = elim (cases_lt at version.block) [
  | inr low ↦ low
  | inl above ↦ absurd (on (onward block_of at (links_over version.block older)) (rw (late version.block at above) at e))
]
  where
    on : (hop : Option Hop) → turns.Answer ≡ turn_by hop → ⊥
    on None e = cc
    on (Some hop) e = cc

was_hop : (at : ℕ) (version : Hop) (older : List Hop) (id : EntryId) → turns.Hop id ≡ turn_at at (version ∷ older) → WasHop at version older id
was_hop at version older id e = elim (cases_lt at version.block) [
  | inr low ↦ absurd (let other : turns.Hop id ≡ turns.Answer = rw (le-leb version.block at low) at e in cc)
  | inl above ↦ on above (onward block_of at (links_over version.block older)) refl (rw (late version.block at above) at e)
]
  where
    on : at < version.block → (hop : Option Hop) → onward block_of at (links_over version.block older) ≡ hop → turns.Hop id ≡ turn_by hop → WasHop at version older id
    on above None is e = absurd cc
    on above (Some hop) is e = let same : hop.id ≡ id = cc in record { above = above; hop = hop; is = is; id_is = same }

was_nothing : (at : ℕ) (version : Hop) (older : List Hop) → IsFalling (blocks_of (version ∷ older)) → turns.Nothing ≡ turn_at at (version ∷ older) → (at < version.block) × (older ≡ [])
was_nothing at version older falling e = elim (cases_lt at version.block) [
  | inr low ↦ absurd (let other : turns.Nothing ≡ turns.Answer = rw (le-leb version.block at low) at e in cc)
  | inl above ↦ (above, on (onward block_of at (links_over version.block older)) refl (rw (late version.block at above) at e))
]
  where
    on : (hop : Option Hop) → onward block_of at (links_over version.block older) ≡ hop → turns.Nothing ≡ turn_by hop → older ≡ []
    on None is e = let none : Goes (next_of block_of at 32 version.block older) older None = rw is at (goes block_of at version.block older falling) in none
    on (Some hop) is e = absurd cc

-- ---- steps

abbrev pub steps_of : ℕ → List Hop → ℕ
steps_of at versions = length (path_over (blocks_of versions) at)

one_step : (at : ℕ) (version : Hop) (older : List Hop) → IsFalling (blocks_of (version ∷ older)) → version.block ≤ at → steps_of at (version ∷ older) ≡ 1
one_step at version older falling low = ap length (over_ends at version.block (blocks_of older) falling low)

more_steps : (at : ℕ) (version : Hop) (older : List Hop) → IsFalling (blocks_of (version ∷ older)) → at < version.block
    → steps_of at (version ∷ older) ≡ suc (steps_of at (next_of block_of at 32 version.block older))
more_steps at version older falling above =
    ap length (over_on at version.block (blocks_of older) falling above)
    ∙ ap (λ (blocks : List ℕ). suc (length (path_over blocks at))) (sym (map_next block_of at 32 version.block older))

last_step : (at : ℕ) (version : Hop) (older : List Hop) → IsFalling (blocks_of (version ∷ older)) → at < version.block → older ≡ [] → steps_of at (version ∷ older) ≡ 1
last_step at version older falling above none =
    ap (λ (rest : List Hop). steps_of at (version ∷ rest)) none
    ∙ ap length (over_on at version.block [] tt above ∙ ap (λ (blocks : List ℕ). version.block ∷ path_over blocks at) (next_none at 32 version.block) ∙ ap (λ (blocks : List ℕ). version.block ∷ blocks) (over_none at))

-- ---- the way of a lookup

-- The block of the newest of some versions has 32 bits.
abbrev pub IsSmall : List Hop → Type 0
IsSmall [] = Unit {0}
IsSmall (version ∷ older) = version.block < 2 ^ 32

-- A count has risen by the `taken` versions that a lookup has looked at; if it has looked at any,
-- the block of the newest has 32 bits.
abbrev HasTaken : ℕ → ℕ → ℕ → List Hop → List Hop → Type 0
HasTaken taken start now versions here = ((taken ≡ 0) × (now ≡ start) × (here ≡ versions)) ⊎ ((now ≡ raised_count start taken) × IsSmall versions)

-- A lookup over these versions has come to an entry.
pub record HasCome (entries : List Entry) (versions : List Hop) (at : ℕ) (id : EntryId) (start now : ℕ) : Type 0 where
  here : List Hop
  towered : IsTowered entries id here
  answer : latest_version at here ≡ latest_version at versions
  taken : ℕ
  count : HasTaken taken start now versions here
  long : taken + steps_of at here ≡ steps_of at versions

pub begins : (entries : List Entry) (versions : List Hop) (at : ℕ) (id : EntryId) (start : ℕ) → IsTowered entries id versions → HasCome entries versions at id start start
begins entries versions at id start towered = record {
  here = versions;
  towered = towered;
  answer = refl;
  taken = 0;
  count = inl (refl, refl, refl);
  long = omega arith;
}

-- One version more was looked at.
one_more : (taken start now more : ℕ) (versions here : List Hop) → HasTaken taken start now versions here → more ≡ raised_count now 1 → IsSmall here → (more ≡ raised_count start (taken + 1)) × IsSmall versions
one_more taken start now more versions here (inl none) is small = (omega (arith, none.0, none.1, is), rw none.2 at small)
one_more taken start now more versions here (inr some) is small = (omega (arith, some.0, is), some.1)

passes : (at : ℕ) (version : Hop) (older : List Hop) → at < version.block → find (λ (v : Hop). nat_le v.block at) (version ∷ older) ≡ find (λ (v : Hop). nat_le v.block at) older
passes at version older above = rw (late version.block at above) refl

pub goes_on : (entries : List Entry) (versions : List Hop) (at : ℕ) (id next : EntryId) (start now more : ℕ) → HasCome entries versions at id start now
    → ((here : List Hop) → IsTowered entries id here → turns.Hop next ≡ turn_at at here)
    → ((version : Hop) (older : List Hop) → IsTowered entries id (version ∷ older) → version.block < 2 ^ 32)
    → more ≡ raised_count now 1 → HasCome entries versions at next start more
goes_on entries versions at id next start now more come turn small is = on come.here come.towered come.answer come.count come.long
  where
    on : (here : List Hop) → IsTowered entries id here → latest_version at here ≡ latest_version at versions → HasTaken come.taken start now versions here
        → come.taken + steps_of at here ≡ steps_of at versions → HasCome entries versions at next start more
    on [] towered answer count long = absurd (none-some id towered.newest)
    on (version ∷ older) towered answer count long =
        let was = was_hop at version older next (turn (version ∷ older) towered) in
        let taken = one_more come.taken start now more versions (version ∷ older) count is (small version older towered) in
        let to = next_of block_of at 32 version.block older in
        let step = more_steps at version older towered.falling was.above in
        record {
          here = to;
          towered = subst (λ (i : EntryId). IsTowered entries i to) was.id_is (leads_to entries at version older was.hop towered.falling towered.towers was.is);
          answer =
              ap (option_map (λ (v : Hop). v.id)) (next_answers block_of at 32 version.block older (rest_falls version.block (blocks_of older) towered.falling))
              ∙ sym (ap (option_map (λ (v : Hop). v.id)) (passes at version older was.above)) ∙ answer;
          taken = come.taken + 1;
          count = inr taken;
          long = omega (arith, long, step);
        }

-- What a lookup that ends returns and has counted.
pub record Ends (versions : List Hop) (at : ℕ) (result : Option EntryId) (start now : ℕ) : Type 0 where
  pub found : result ≡ latest_version at versions
  pub count : now ≡ raised_count start (steps_of at versions)
  pub small : IsSmall versions

pub ends_at_answer : (entries : List Entry) (versions : List Hop) (at : ℕ) (id : EntryId) (start now more : ℕ) → HasCome entries versions at id start now
    → ((here : List Hop) → IsTowered entries id here → turns.Answer ≡ turn_at at here)
    → ((version : Hop) (older : List Hop) → IsTowered entries id (version ∷ older) → version.block < 2 ^ 32)
    → more ≡ raised_count now 1 → Ends versions at (Some id) start more
ends_at_answer entries versions at id start now more come turn small is = on come.here come.towered come.answer come.count come.long
  where
    on : (here : List Hop) → IsTowered entries id here → latest_version at here ≡ latest_version at versions → HasTaken come.taken start now versions here
        → come.taken + steps_of at here ≡ steps_of at versions → Ends versions at (Some id) start more
    on [] towered answer count long = absurd (none-some id towered.newest)
    on (version ∷ older) towered answer count long =
        let low = was_answer at version older (turn (version ∷ older) towered) in
        let taken = one_more come.taken start now more versions (version ∷ older) count is (small version older towered) in
        let found : latest_version at (version ∷ older) ≡ Some version.id = rw (le-leb version.block at low) refl in
        let step = one_step at version older towered.falling low in
        let all : come.taken + 1 ≡ steps_of at versions = omega (arith, long, step) in
        record {
          found = sym towered.newest ∙ sym found ∙ answer;
          count = taken.0 ∙ ap (raised_count start) all;
          small = taken.1;
        }

pub ends_at_none : (entries : List Entry) (versions : List Hop) (at : ℕ) (id : EntryId) (start now more : ℕ) → HasCome entries versions at id start now
    → ((here : List Hop) → IsTowered entries id here → turns.Nothing ≡ turn_at at here)
    → ((version : Hop) (older : List Hop) → IsTowered entries id (version ∷ older) → version.block < 2 ^ 32)
    → more ≡ raised_count now 1 → Ends versions at None start more
ends_at_none entries versions at id start now more come turn small is = on come.here come.towered come.answer come.count come.long
  where
    on : (here : List Hop) → IsTowered entries id here → latest_version at here ≡ latest_version at versions → HasTaken come.taken start now versions here
        → come.taken + steps_of at here ≡ steps_of at versions → Ends versions at None start more
    on [] towered answer count long = absurd (none-some id towered.newest)
    on (version ∷ older) towered answer count long =
        let was = was_nothing at version older towered.falling (turn (version ∷ older) towered) in
        let taken = one_more come.taken start now more versions (version ∷ older) count is (small version older towered) in
        let found : latest_version at (version ∷ older) ≡ None = rw (late version.block at was.0, was.1) refl in
        let step = last_step at version older towered.falling was.0 was.1 in
        let all : come.taken + 1 ≡ steps_of at versions = omega (arith, long, step) in
        record {
          found = sym found ∙ answer;
          count = taken.0 ∙ ap (raised_count start) all;
          small = taken.1;
        }

pub few_steps : (at : ℕ) (versions : List Hop) → IsFalling (blocks_of versions) → IsSmall versions → steps_of at versions ≤ most_steps versions
few_steps at [] falling small = rw (over_none at) (omega arith)
few_steps at (version ∷ older) falling small = path_over_short version.block (blocks_of older) at falling small
