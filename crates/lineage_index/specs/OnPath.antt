-- The entries that a lookup looks at.
use Rattle.std.specs.Prelude.{◌≡◌, ℕ, List, map, Option, Some, slice_get}
use Rattle.std.specs.Option.{option_map}
use Rattle.lc_base.specs.declared.row.Dep.{Dep}
use Rattle.lc_base.specs.declared.row.Row.{Row}
use Rattle.lc_base.specs.History.{version_of}
use Rattle.skip_list.specs.entry_store.declared.entry.EntryId.{EntryId}

-- The version of a key in a block.
abbrev pub version_in : List ℕ → ℕ → Dep
version_in key block = record { key = key; block = block }

-- The version whose entry this is: the id of an entry is the index of its row.
abbrev pub version_of_entry : List Row → EntryId → Option Dep
version_of_entry rows id = option_map version_of (slice_get rows id.0)

-- The entries are those of the versions of the key in these blocks, one after another.
abbrev pub AreEntriesIn : List Row → List ℕ → List ℕ → List EntryId → Type 0
AreEntriesIn rows key blocks ids = map (version_of_entry rows) ids ≡ map (λ (block : ℕ). Some (version_in key block)) blocks
