-- At an entry a store is towered with at most one list of versions: its hops of level 0 determine
-- the others.
use Rattle.std.proofs.Common.{◌≡◌, ◌∙◌, ℕ, ◌+◌, List, [], ◌∷◌, Option, Some, None, refl, sym, ap, subst}
use Rattle.std.specs.Prelude.{slice_get, IsSomeAnd}
use Rattle.std.specs.Option.{option_map}
use Rattle.std.specs.List.{filter_map, range_with_len}
use Rattle.std.proofs.lemmas.Option.{none-some, same_Some}
use Rattle.skip_links.specs.Falling.{IsFalling}
use Rattle.skip_links.proofs.Falls.{rest_falls}
use Rattle.skip_links.proofs.Lists.{range_first}
use Rattle.skip_links.specs.Towers.{height_over, last_at, tower}
use Rattle.skip_links.proofs.PathLevels.{at_bottom}
use Rattle.entry_store.specs.declared.entry.EntryId.{EntryId}
use Rattle.entry_store.specs.declared.entry.Hop.{Hop}
use Rattle.entry_store.specs.declared.entry.Links.{Links}
use Rattle.entry_store.specs.Entries.{Entry}
use Rattle.skip_list.specs.Towered.{block_of, blocks_of, links_over, HaveTowers, IsTowered}
use Rattle.skip_list.proofs.LinkLevels.{from_here}
use Rattle.skip_list.proofs.Rungs.{no_links}

-- ---- the link of level 0 is to the version before

first_kept : (f : ℕ → Option Hop) (n : ℕ) (hop : Hop) → f 0 ≡ Some hop → slice_get (filter_map f (range_with_len 0 (n + 1))) 0 ≡ Some hop
first_kept f n hop e = rw (range_first n, e) refl

first_link : (block : ℕ) (older : List Hop) → IsFalling (block ∷ blocks_of older) → slice_get (links_over block older) 0 ≡ slice_get older 0
unfolding tower
first_link block [] falling = ap (λ (links : List Hop). slice_get links 0) (no_links block)
first_link block (version ∷ older) falling =
    let here = from_here block_of 0 version older (at_bottom version.block (blocks_of older) falling.1) in
    first_kept (last_at block_of (version ∷ older)) (height_over block (blocks_of (version ∷ older))) version (ap (λ (versions : List Hop). slice_get versions 0) here)

-- ---- so the links of an entry say which versions are before it

same_links : (entry : Option Entry) (one other : Links) → IsSomeAnd entry (λ (e : Entry). e.links ≡ one) → IsSomeAnd entry (λ (e : Entry). e.links ≡ other) → one ≡ other
same_links None one other a b = absurd a
same_links (Some entry) one other a b = sym a ∙ b

one_by_one : (entries : List Entry) (versions others : List Hop) → slice_get versions 0 ≡ slice_get others 0 → IsFalling (blocks_of versions) → IsFalling (blocks_of others)
    → HaveTowers entries versions → HaveTowers entries others → versions ≡ others
unfolding HaveTowers
one_by_one entries [] [] first a b towers others_towers = refl
one_by_one entries [] (other ∷ others) first a b towers others_towers = absurd (none-some other first)
one_by_one entries (version ∷ versions) [] first a b towers others_towers = absurd (none-some version (sym first))
one_by_one entries (version ∷ versions) (other ∷ others) first a b towers others_towers =
    let same : other ≡ version = same_Some other version (sym first) in
    let moved : IsSomeAnd (slice_get entries version.id.0) (λ (e : Entry). e.links ≡ record { block = version.block; hops = links_over version.block others }) =
    subst (λ (v : Hop). IsSomeAnd (slice_get entries v.id.0) (λ (e : Entry). e.links ≡ record { block = v.block; hops = links_over v.block others })) same others_towers.0 in
    let links = same_links (slice_get entries version.id.0) (record { block = version.block; hops = links_over version.block versions }) (record { block = version.block; hops = links_over version.block others }) towers.0 moved in
    let falls : IsFalling (version.block ∷ blocks_of others) = subst (λ (v : Hop). IsFalling (v.block ∷ blocks_of others)) same b in
    let next : slice_get versions 0 ≡ slice_get others 0 =
    sym (first_link version.block versions a) ∙ ap (λ (l : Links). slice_get l.hops 0) links ∙ first_link version.block others falls in
    let rest = one_by_one entries versions others next (rest_falls version.block (blocks_of versions) a) (rest_falls version.block (blocks_of others) falls) towers.1 others_towers.1 in
    ap (λ (vs : List Hop). version ∷ vs) rest ∙ ap (λ (v : Hop). v ∷ others) (sym same)

blocks_agree : (entries : List Entry) (version other : Hop) (older olders : List Hop) → version.id ≡ other.id → HaveTowers entries (version ∷ older) → HaveTowers entries (other ∷ olders)
    → version.block ≡ other.block
unfolding HaveTowers
blocks_agree entries version other older olders same towers others =
    let moved : IsSomeAnd (slice_get entries version.id.0) (λ (e : Entry). e.links ≡ record { block = other.block; hops = links_over other.block olders }) =
    subst (λ (id : EntryId). IsSomeAnd (slice_get entries id.0) (λ (e : Entry). e.links ≡ record { block = other.block; hops = links_over other.block olders })) (sym same) others.0 in
    ap (λ (l : Links). l.block)
    (same_links (slice_get entries version.id.0) (record { block = version.block; hops = links_over version.block older }) (record { block = other.block; hops = links_over other.block olders }) towers.0 moved)

same_first : (entries : List Entry) (id : EntryId) (versions others : List Hop) → IsTowered entries id versions → IsTowered entries id others → slice_get versions 0 ≡ slice_get others 0
same_first entries id versions others a b = on versions others a.newest b.newest a.towers b.towers
  where
    by_parts : (version other : Hop) → version.block ≡ other.block → version.id ≡ other.id → version ≡ other
    by_parts version other block id =
        ap (λ (n : ℕ). let h : Hop = record { block = n; id = version.id } in h) block ∙ ap (λ (i : EntryId). let h : Hop = record { block = other.block; id = i } in h) id

    on : (versions others : List Hop) → option_map (λ (v : Hop). v.id) (slice_get versions 0) ≡ Some id → option_map (λ (v : Hop). v.id) (slice_get others 0) ≡ Some id → HaveTowers entries versions → HaveTowers entries others → slice_get versions 0 ≡ slice_get others 0
    on [] others n m t u = absurd (none-some id n)
    on (version ∷ older) [] n m t u = absurd (none-some id m)
    on (version ∷ older) (other ∷ olders) n m t u =
        let ids : version.id ≡ other.id = same_Some version.id id n ∙ sym (same_Some other.id id m) in
        ap Some (by_parts version other (blocks_agree entries version other older olders ids t u) ids)

pub one_list : (entries : List Entry) (id : EntryId) (versions others : List Hop) → IsTowered entries id versions → IsTowered entries id others → versions ≡ others
one_list entries id versions others a b = one_by_one entries versions others (same_first entries id versions others a b) a.falling b.falling a.towers b.towers
