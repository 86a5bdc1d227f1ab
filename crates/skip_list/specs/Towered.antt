-- Entries whose hops are those of a skip list.
use Rattle.std.specs.Prelude.{◌≡◌, ℕ, List, [], ◌∷◌, map, Option, Some, None, slice_get, IsSomeAnd}
use Rattle.std.specs.Option.{option_map}
use Rattle.skip_links.specs.Falling.{IsFalling}
use Rattle.skip_links.specs.Towers.{tower}
use Rattle.entry_store.specs.declared.entry.EntryId.{EntryId}
use Rattle.entry_store.specs.declared.entry.Hop.{Hop}
use Rattle.entry_store.specs.Entries.{Entry}

-- The block of a version.
abbrev pub block_of : Hop → ℕ
block_of version = version.block

-- The blocks of versions.
abbrev pub blocks_of : List Hop → List ℕ
blocks_of versions = map block_of versions

-- The links of a version in a block, over the versions before it.
abbrev pub links_over : ℕ → List Hop → List Hop
links_over block older = tower block_of block older

-- The entries of these versions of a key, the newest first, each have the links over those before.
unfoldable pub HaveTowers : List Entry → List Hop → Type 0
HaveTowers entries [] = Unit {0}
HaveTowers entries (version ∷ older) =
    IsSomeAnd (slice_get entries version.id.0) (λ entry. entry.links ≡ record { block = version.block; hops = links_over version.block older }) × HaveTowers entries older

-- A store is towered at an entry, which is the newest of these versions: the others are those that
-- its hops of level 0 lead to, one after another.
pub record IsTowered (entries : List Entry) (id : EntryId) (versions : List Hop) : Type 0 where
  pub newest : option_map (λ (version : Hop). version.id) (slice_get versions 0) ≡ Some id
  pub falling : IsFalling (blocks_of versions)
  pub towers : HaveTowers entries versions

-- The versions from a newest entry on; none if there is no such entry.
abbrev pub AreVersions : List Entry → Option EntryId → List Hop → Type 0
AreVersions entries None versions = versions ≡ []
AreVersions entries (Some id) versions = IsTowered entries id versions

-- The blocks of the versions are before this one, and fall.
abbrev pub AreOlder : ℕ → List Hop → Type 0
AreOlder block versions = IsFalling (block ∷ blocks_of versions)

-- The store is towered at the entry of this version.
abbrev pub LeadsToTowered : List Entry → Hop → Type 0
LeadsToTowered entries version = (older : List Hop) × IsTowered entries version.id (version ∷ older)
