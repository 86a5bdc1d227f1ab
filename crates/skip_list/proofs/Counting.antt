-- A climb reads the newest version, and one entry more for each link that leads to another block.
use Rattle.std.proofs.Common.{◌≡◌, ◌∙◌, ℕ, ◌+◌, ◌<◌, ◌^◌, true, List, [], ◌∷◌, ◌++◌, refl, sym, ap, arith, inl, inr}
use Rattle.std.specs.Prelude.{◌==◌, if◌then◌else◌}
use Rattle.std.proofs.lemmas.Bool.{cases_Bool, eq-eqb, eqb-true}
use Rattle.std.proofs.lemmas.Option.{same_Some, none-some}
use Rattle.entry_store.specs.declared.entry.EntryId.{EntryId}
use Rattle.entry_store.specs.declared.entry.Hop.{Hop}
use Rattle.entry_store.specs.Entries.{Entry}
use Rattle.entry_store.specs.Steps.{raised_count}
use Rattle.skip_list.specs.declared.rung.Rung.{Rung}
use Rattle.skip_list.specs.Towered.{HaveTowers, IsTowered}
use Rattle.skip_list.specs.Climbing.{rung_over, count_moved, moves_along, entries_climbed}

-- ---- one climb

same_block : (block : ℕ) → (block == block) ≡ true
same_block block = eq-eqb block block refl

pub not_moved : (count block : ℕ) → count ≡ count_moved count block block
not_moved count block = rw (same_block block) refl

pub moved : (count next from to : ℕ) → to < from → next ≡ raised_count count 1 → next ≡ count_moved count from to
moved count next from to below step = elim (cases_Bool (from == to)) [
  | inl same ↦ let e = eqb-true from to same in absurd (omega (arith, below, e))
  | inr other ↦ rw other step
]

-- ---- all climbs

-- The block that links have come to, from this one on.
abbrev pub come_to : ℕ → List Hop → ℕ
come_to block [] = block
come_to block (link ∷ links) = come_to link.block links

come_to_last : (block : ℕ) (links : List Hop) (link : Hop) → come_to block (links ++ link ∷ []) ≡ link.block
come_to_last block [] link = refl
come_to_last block (first ∷ links) link = come_to_last first.block links link

moves_more : (block : ℕ) (links : List Hop) (link : Hop)
    → moves_along block (links ++ link ∷ []) ≡ moves_along block links + (if come_to block links == link.block then 0 else 1)
unfolding moves_along
moves_more block [] link = omega arith
moves_more block (first ∷ links) link = let more = moves_more first.block links link in omega (arith, more)

-- The links have come to a version in this block, and the count has risen by the entries that were
-- read for them.
abbrev pub HasClimbed : ℕ → List Hop → List Hop → ℕ → ℕ → Type 0
HasClimbed start [] links at now = ⊥
HasClimbed start (newest ∷ older) links at now = (come_to newest.block links ≡ at) × (now ≡ raised_count start (entries_climbed (newest ∷ older) links))

-- A climb begins at the newest version, which was read.
pub climb_begins : (entries : List Entry) (id : EntryId) (versions : List Hop) (rung : Rung) (start now : ℕ) → IsTowered entries id versions
    → ((version : Hop) (older : List Hop) → version.id ≡ id → HaveTowers entries (version ∷ older) → rung ≡ rung_over version older)
    → now ≡ raised_count start 1 → HasClimbed start versions [] rung.version.block now
unfolding moves_along
climb_begins entries id [] rung start now towered reads step = absurd (none-some id towered.newest)
climb_begins entries id (version ∷ older) rung start now towered reads step =
    let is = reads version older (same_Some version.id id towered.newest) towered.towers in
    (sym (ap (λ (r : Rung). r.version.block) is), step)

-- A climb goes on by one level.
pub climbs_on : (start : ℕ) (versions links : List Hop) (link : Hop) (at now next : ℕ) → HasClimbed start versions links at now
    → next ≡ count_moved now at link.block → HasClimbed start versions (links ++ link ∷ []) link.block next
climbs_on start [] links link at now next climbed step = absurd climbed
climbs_on start (newest ∷ older) links link at now next climbed step = (come_to_last newest.block links link, counted)
  where
    more : moves_along newest.block (links ++ link ∷ []) ≡ moves_along newest.block links + (if at == link.block then 0 else 1)
    more = rw climbed.0 at (moves_more newest.block links link)

    counted : next ≡ raised_count start (entries_climbed (newest ∷ older) (links ++ link ∷ []))
    counted = elim (cases_Bool (at == link.block)) [
      | inl same ↦ let m = rw same at more in let s = rw same at step in omega (arith, climbed.1, m, s)
      | inr other ↦ let m = rw other at more in let s = rw other at step in omega (arith, climbed.1, m, s)
    ]

pub climb_counted : (start : ℕ) (versions links others : List Hop) (at now : ℕ) → HasClimbed start versions links at now → links ≡ others
    → now ≡ raised_count start (entries_climbed versions others)
climb_counted start [] links others at now climbed same = absurd climbed
climb_counted start (newest ∷ older) links others at now climbed same = climbed.1 ∙ ap (λ (ls : List Hop). raised_count start (entries_climbed (newest ∷ older) ls)) same

-- If there are no versions, nothing is read.
pub none_climbed : (count : ℕ) (versions links : List Hop) → versions ≡ [] → count < 2 ^ 64 → count ≡ raised_count count (entries_climbed versions links)
none_climbed count versions links none few = rw none (omega (arith, few))
