-- Lookups of the last version up to a block.
use Rattle.std.specs.Prelude.{◌≡◌, ℕ, ◌+◌, ◌*◌, ◌<◌, nat_le, if◌then◌else◌, List, [], ◌∷◌}
use Rattle.std.specs.Prelude.{slice_get, Option, Some, None}
use Rattle.std.specs.List.{find}
use Rattle.std.specs.Option.{option_map}
use Rattle.skip_links.specs.Paths.{onward, binary_digits}
use Rattle.entry_store.specs.declared.entry.EntryId.{EntryId}
use Rattle.entry_store.specs.declared.entry.Hop.{Hop}
use Rattle.entry_store.specs.Entries.{Entry}
use Rattle.skip_list.specs.declared.lookup.Turn.{Turn}
use Rattle.skip_list.specs.declared.lookup.Turn.TheVariants as turns
use Rattle.skip_list.specs.Towered.{block_of, links_over, IsTowered}

-- A turn that goes on by a link, or finds nothing if there is no link.
abbrev pub turn_by : Option Hop → Turn
turn_by None = turns.Nothing
turn_by (Some hop) = turns.Hop hop.id

-- The outcome of a look at the newest of these versions.
abbrev pub turn_at : ℕ → List Hop → Turn
turn_at at [] = turns.Nothing
turn_at at (version ∷ older) = if nat_le version.block at then turns.Answer else turn_by (onward block_of at (links_over version.block older))

-- The store is towered at the entry that a turn goes on to.
abbrev pub IsTurnTowered : List Entry → Turn → Type 0
IsTurnTowered entries turns.Answer = Unit {0}
IsTurnTowered entries turns.Nothing = Unit {0}
IsTurnTowered entries (turns.Hop id) = (versions : List Hop) × IsTowered entries id versions

-- An entry that a turn goes on to is before this one.
abbrev pub IsBack : EntryId → Turn → Type 0
IsBack id turns.Answer = Unit {0}
IsBack id turns.Nothing = Unit {0}
IsBack id (turns.Hop next) = next.0 < id.0

-- This is the link of an entry to the version before it: its lowest one, or none.
abbrev pub IsPrevious : List Entry → EntryId → Option Hop → Type 0
IsPrevious entries id previous =
    option_map (λ (entry : Entry). slice_get entry.links.hops 0) (slice_get entries id.0)
    ≡ Some previous

-- The last of these versions that is in a block up to `at`.
abbrev pub latest_version : ℕ → List Hop → Option EntryId
latest_version at versions = option_map (λ (version : Hop). version.id) (find (λ (version : Hop). nat_le version.block at) versions)

-- The greatest number of versions that a lookup from the newest of these looks at.
abbrev pub most_steps : List Hop → ℕ
most_steps [] = 0
most_steps (version ∷ older) = 2 * binary_digits version.block + 2
