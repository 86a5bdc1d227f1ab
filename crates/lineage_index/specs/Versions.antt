-- The versions of a key among the rows of a history. The id of the entry of a row is the row's
-- index.
use Rattle.std.specs.Prelude.{◌==◌, if◌then◌else◌, List, ℕ, [], ◌∷◌, length, reverse, Option, slice_get}
use Rattle.std.specs.Option.{option_map}
use Rattle.std.specs.Cmp.Lexicographic.{pointwise}
use Rattle.lc_base.specs.declared.row.Row.{Row}
use Rattle.skip_list.specs.entry_store.declared.entry.EntryId.{EntryId}
use Rattle.skip_list.specs.entry_store.declared.entry.Hop.{Hop}
use Rattle.skip_list.specs.entry_store.declared.entry.Links.{Links}
use Rattle.skip_list.specs.Towered.{links_over}

-- The versions of a key in rows that are given in reverse order.
abbrev pub versions_in_reverse : List Row → List ℕ → List Hop
versions_in_reverse [] key = []
versions_in_reverse (row ∷ before) key =
    if pointwise ◌==◌ row.key key then record { block = row.block; id = record { 0 = length before } } ∷ versions_in_reverse before key else versions_in_reverse before key

-- The versions of a key, the newest first, each with the id of its entry.
unfoldable pub versions_of_key : List Row → List ℕ → List Hop
versions_of_key rows key = versions_in_reverse (reverse rows) key

-- The entry of the newest version of a key; `None` if it has no version.
abbrev pub newest_entry : List Row → List ℕ → Option EntryId
newest_entry rows key = option_map (λ (version : Hop). version.id) (slice_get (versions_of_key rows key) 0)

-- The links of a row, from the rows before it.
abbrev pub links_after : List Row → Row → Links
links_after before row = record { block = row.block; hops = links_over row.block (versions_of_key before row.key) }
