-- The versions that a lookup looks at, turn by turn: their blocks so far and the rest of the path
-- are the path.
use Rattle.std.proofs.Common.{◌≡◌, ◌∙◌, ℕ, ◌^◌, ◌<◌, Bool, true, List, [], ◌∷◌, ◌++◌, length, map, Option, Some, None, refl, sym, ap, arith, inl, inr}
use Rattle.std.specs.Prelude.{slice_get, IsSomeAnd}
use Rattle.std.specs.List.{AllByRecursion}
use Rattle.std.specs.Option.{option_map}
use Rattle.std.proofs.lemmas.Bool.{cases_lt, le-leb}
use Rattle.std.proofs.lemmas.List.{append-nil, append_assoc, map-append, length_push}
use Rattle.std.proofs.lemmas.Option.{same_Some, none-some}
use Rattle.skip_links.specs.Falling.{IsFalling}
use Rattle.skip_links.specs.Paths.{onward, path_over}
use Rattle.skip_links.proofs.Bound.{late, next_none}
use Rattle.skip_links.proofs.PathTowers.{next_of, next_keeps, map_next, goes, Goes}
use Rattle.skip_links.proofs.Walks.{over_ends, over_on, over_none}
use Rattle.entry_store.specs.declared.entry.EntryId.{EntryId}
use Rattle.entry_store.specs.declared.entry.Hop.{Hop}
use Rattle.entry_store.specs.declared.entry.Links.{Links}
use Rattle.entry_store.specs.Entries.{Entry}
use Rattle.entry_store.specs.Steps.{raised_count}
use Rattle.skip_list.specs.declared.lookup.Turn.{Turn}
use Rattle.skip_list.specs.declared.lookup.Turn.TheVariants as turns
use Rattle.skip_list.specs.Towered.{block_of, blocks_of, links_over, HaveTowers, IsTowered, AreVersions}
use Rattle.skip_list.specs.Lookups.{turn_at, turn_by, IsBack}
use Rattle.skip_list.specs.LookedAt.{next_entry, entry_block, entries_left}
use Rattle.skip_list.proofs.Turns.{leads_to}

-- This holds of the entries of all these versions.
abbrev pub AllSay : (EntryId → Bool) → List Hop → Type 0
AllSay says versions = AllByRecursion (λ (version : Hop). says version.id ≡ true) versions

abbrev pub AllTold : (EntryId → Bool) → List EntryId → Type 0
AllTold says ids = AllByRecursion (λ (id : EntryId). says id ≡ true) ids

-- One turn: the versions that are left, the path, and the block of the one that was looked at.
record OneTurn (entries : List Entry) (at : ℕ) (id : EntryId) (here : List Hop) (turn : Turn) : Type 0 where
  rest : List Hop
  block : ℕ
  versions : AreVersions entries (next_entry turn) rest
  path : path_over (blocks_of here) at ≡ block ∷ path_over (blocks_of rest) at
  is : entry_block entries id ≡ Some block
  say : (says : EntryId → Bool) → AllSay says here → AllSay says rest × (says id ≡ true)

has_block : (entry : Option Entry) (block : ℕ) (hops : List Hop) → IsSomeAnd entry (λ (e : Entry). e.links ≡ record { block = block; hops = hops })
    → option_map (λ (e : Entry). e.links.block) entry ≡ Some block
has_block None block hops there = absurd there
has_block (Some entry) block hops there = ap (λ (l : Links). let o : Option ℕ = Some l.block in o) there

first_tower : (entries : List Entry) (version : Hop) (older : List Hop) → HaveTowers entries (version ∷ older) → entry_block entries version.id ≡ Some version.block
unfolding HaveTowers
first_tower entries version older towers = has_block (slice_get entries version.id.0) version.block (links_over version.block older) towers.0

says_first : (version : Hop) (older : List Hop) (id : EntryId) (says : EntryId → Bool) → version.id ≡ id → AllSay says (version ∷ older) → says id ≡ true
says_first version older id says same all = ap says (sym same) ∙ all.0

ends : (entries : List Entry) (at : ℕ) (id : EntryId) (version : Hop) (older : List Hop) (turn : Turn) → IsTowered entries id (version ∷ older) → next_entry turn ≡ None
    → path_over (blocks_of (version ∷ older)) at ≡ version.block ∷ [] → OneTurn entries at id (version ∷ older) turn
ends entries at id version older turn towered none path =
    let same : version.id ≡ id = same_Some version.id id towered.newest in
    record {
      rest = [];
      block = version.block;
      versions = rw none refl;
      path = path ∙ ap (λ (blocks : List ℕ). version.block ∷ blocks) (sym (over_none at));
      is = ap (entry_block entries) (sym same) ∙ first_tower entries version older towered.towers;
      say = λ says all. (tt, says_first version older id says same all);
    }

goes_on_by : (entries : List Entry) (at : ℕ) (id : EntryId) (version : Hop) (older : List Hop) (turn : Turn) (hop : Hop) → IsTowered entries id (version ∷ older) → at < version.block
    → onward block_of at (links_over version.block older) ≡ Some hop → turn ≡ turns.Hop hop.id → OneTurn entries at id (version ∷ older) turn
goes_on_by entries at id version older turn hop towered above is goes =
    let same : version.id ≡ id = same_Some version.id id towered.newest in
    record {
      rest = next_of block_of at 32 version.block older;
      block = version.block;
      versions = rw goes (leads_to entries at version older hop towered.falling towered.towers is);
      path =
          over_on at version.block (blocks_of older) towered.falling above
          ∙ ap (λ (blocks : List ℕ). version.block ∷ path_over blocks at) (sym (map_next block_of at 32 version.block older));
      is = ap (entry_block entries) (sym same) ∙ first_tower entries version older towered.towers;
      say = λ says all. (next_keeps block_of (AllSay says) (λ first others each. each.1) at 32 version.block older all.1, says_first version older id says same all);
    }

no_more : (at : ℕ) (version : Hop) (older : List Hop) → IsFalling (blocks_of (version ∷ older)) → at < version.block → onward block_of at (links_over version.block older) ≡ None
    → path_over (blocks_of (version ∷ older)) at ≡ version.block ∷ []
no_more at version older falling above is =
    let none : Goes (next_of block_of at 32 version.block older) older None = rw is at (goes block_of at version.block older falling) in
    ap (λ (rest : List Hop). path_over (blocks_of (version ∷ rest)) at) none ∙ over_on at version.block [] tt above
    ∙ ap (λ (blocks : List ℕ). version.block ∷ path_over blocks at) (next_none at 32 version.block) ∙ ap (λ (blocks : List ℕ). version.block ∷ blocks) (over_none at)

one_turn : (entries : List Entry) (at : ℕ) (id : EntryId) (here : List Hop) (turn : Turn) → IsTowered entries id here → turn ≡ turn_at at here → OneTurn entries at id here turn
one_turn entries at id [] turn towered is = absurd (none-some id towered.newest)
one_turn entries at id (version ∷ older) turn towered is = elim (cases_lt at version.block) [
  | inr low ↦
      let answer : turn ≡ turns.Answer = rw (le-leb version.block at low) at is in
      ends entries at id version older turn towered (ap next_entry answer) (over_ends at version.block (blocks_of older) towered.falling low)
  | inl above ↦ by_link above (onward block_of at (links_over version.block older)) refl (rw (late version.block at above) at is)
]
  where
    by_link : at < version.block → (hop : Option Hop) → onward block_of at (links_over version.block older) ≡ hop → turn ≡ turn_by hop → OneTurn entries at id (version ∷ older) turn
    by_link above None link goes = ends entries at id version older turn towered (ap next_entry goes) (no_more at version older towered.falling above link)
    by_link above (Some hop) link goes = goes_on_by entries at id version older turn hop towered above link goes

-- ---- the loop

-- The lookup over these versions has looked at some entries, and goes on at another one.
pub record HasLooked (entries : List Entry) (versions : List Hop) (at : ℕ) (ids : List EntryId) (next : Option EntryId) : Type 0 where
  here : List Hop
  left : AreVersions entries next here
  path : map (entry_block entries) ids ++ map Some (path_over (blocks_of here) at) ≡ map Some (path_over (blocks_of versions) at)
  say : (says : EntryId → Bool) → AllSay says versions → AllSay says here × AllTold says ids

pub looks_first : (entries : List Entry) (versions : List Hop) (at : ℕ) (newest : EntryId) → IsTowered entries newest versions → HasLooked entries versions at [] (Some newest)
looks_first entries versions at newest towered = record { here = versions; left = towered; path = refl; say = λ says all. (all, tt) }

told_more : (says : EntryId → Bool) (ids : List EntryId) (id : EntryId) → AllTold says ids → says id ≡ true → AllTold says (ids ++ id ∷ [])
told_more says [] id told is = (is, tt)
told_more says (first ∷ ids) id told is = (told.0, told_more says ids id told.1 is)

pub looks_on : (entries : List Entry) (versions : List Hop) (at : ℕ) (ids : List EntryId) (id : EntryId) (turn : Turn) → HasLooked entries versions at ids (Some id)
    → ((here : List Hop) → IsTowered entries id here → turn ≡ turn_at at here) → HasLooked entries versions at (ids ++ id ∷ []) (next_entry turn)
looks_on entries versions at ids id turn looked turns_are =
    let step = one_turn entries at id looked.here turn looked.left (turns_are looked.here looked.left) in
    record {
      here = step.rest;
      left = step.versions;
      path =
          ap (λ (blocks : List (Option ℕ)). blocks ++ map Some (path_over (blocks_of step.rest) at)) (map-append (entry_block entries) ids (id ∷ []))
          ∙ append_assoc (map (entry_block entries) ids) (entry_block entries id ∷ []) (map Some (path_over (blocks_of step.rest) at))
          ∙ ap (λ (block : Option ℕ). map (entry_block entries) ids ++ block ∷ map Some (path_over (blocks_of step.rest) at)) step.is
          ∙ ap (λ (blocks : List ℕ). map (entry_block entries) ids ++ map Some blocks) (sym step.path) ∙ looked.path;
      say = λ says all.
          let before = looked.say says all in
          let now = step.say says before.0 in
          (now.0, told_more says ids id before.1 now.1);
    }

pub looked_at : (entries : List Entry) (versions : List Hop) (at : ℕ) (ids : List EntryId) (id : EntryId) → HasLooked entries versions at ids (Some id) → (here : List Hop) × IsTowered entries id here
looked_at entries versions at ids id looked = (looked.here, looked.left)

pub all_looked : (entries : List Entry) (versions : List Hop) (at : ℕ) (ids : List EntryId) (next : Option EntryId) → HasLooked entries versions at ids next → next ≡ None
    → map (entry_block entries) ids ≡ map Some (path_over (blocks_of versions) at)
all_looked entries versions at ids next looked none =
    let empty : looked.here ≡ [] = rw none at looked.left in
    let over : map Some (path_over (blocks_of looked.here) at) ≡ [] = ap (λ (vs : List Hop). map Some (path_over (blocks_of vs) at)) empty ∙ ap (map Some) (over_none at) in
    sym (append-nil (map (entry_block entries) ids)) ∙ ap (λ (rest : List (Option ℕ)). map (entry_block entries) ids ++ rest) (sym over) ∙ looked.path

pub all_told : (entries : List Entry) (versions : List Hop) (at : ℕ) (ids : List EntryId) (next : Option EntryId) (says : EntryId → Bool) → HasLooked entries versions at ids next
    → AllSay says versions → AllTold says ids
all_told entries versions at ids next says looked all = (looked.say says all).1

-- A lookup goes back.
pub fewer_left : (id : EntryId) (turn : Turn) → IsBack id turn → entries_left (next_entry turn) < entries_left (Some id)
fewer_left id turns.Answer back = omega arith
fewer_left id turns.Nothing back = omega arith
fewer_left id (turns.Hop next) back = omega (arith, back)

-- ---- how many were read

pub none_read : (count : ℕ) → count < 2 ^ 64 → count ≡ raised_count count 0
none_read count few = omega (arith, few)

pub one_read : (start count next : ℕ) (ids : List EntryId) (id : EntryId) → count ≡ raised_count start (length ids) → next ≡ raised_count count 1 → next ≡ raised_count start (length (ids ++ id ∷ []))
one_read start count next ids id before step = omega (arith, before, step, length_push ids id)
