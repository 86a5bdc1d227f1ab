-- The entries that a lookup looks at.
use Rattle.std.specs.Prelude.{◌≡◌, ℕ, suc, Bool, true, List, Option, Some, None, slice_get}
use Rattle.std.specs.List.{AllByRecursion}
use Rattle.std.specs.Option.{option_map}
use Rattle.entry_store.specs.declared.entry.EntryId.{EntryId}
use Rattle.entry_store.specs.declared.entry.Hop.{Hop}
use Rattle.entry_store.specs.Entries.{Entry}
use Rattle.skip_list.specs.declared.lookup.Turn.{Turn}
use Rattle.skip_list.specs.declared.lookup.Turn.TheVariants as turns

-- The entry that a turn goes on to; `None` if the lookup ends.
abbrev pub next_entry : Turn → Option EntryId
next_entry turns.Answer = None
next_entry turns.Nothing = None
next_entry (turns.Hop id) = Some id

-- The block of an entry.
abbrev pub entry_block : List Entry → EntryId → Option ℕ
entry_block entries id = option_map (λ (entry : Entry). entry.links.block) (slice_get entries id.0)

-- These entries are among those of the versions: what holds of each of those holds of each of
-- these.
abbrev pub AreAmong : List Hop → List EntryId → Type 0
AreAmong versions ids =
    (says : EntryId → Bool) → AllByRecursion (λ (version : Hop). says version.id ≡ true) versions → AllByRecursion (λ (id : EntryId). says id ≡ true) ids

-- The greatest number of entries that a lookup may still look at, from the next one on: it goes
-- back at each turn.
abbrev pub entries_left : Option EntryId → ℕ
entries_left None = 0
entries_left (Some id) = suc id.0
