-- What is kept of the keys while the rows of a block become their newest versions, and while leaves are
-- made anew.
use Rattle.std.specs.Prelude.{◌≡◌, ℕ, if◌then◌else◌, List, ◌++◌}
use Rattle.lc_base.specs.declared.row.Row.{Row}
use Rattle.lc_base.specs.History.{IsLawful}
use Rattle.entry_views.specs.prov_entry.declared.entry.Leaf.{Leaf}
use Rattle.skip_list.specs.entry_store.Entries.{Entry as StoreEntry}
use Rattle.lineage_index.specs.Entries.{entries_of}
use Rattle.plain_rows.specs.root_laws.Root.{is_among, keys_of}
use Rattle.forward_links.specs.declared.kept_list.KeptList.{KeptList}
use Rattle.forward_links.specs.Lists.{Use}
use Rattle.lineage_index.specs.Growth.{Grows, Entry, entry_of, open_uses, list_after_rows}
use Rattle.lineage_index.specs.Growth.{entry_after}
use Rattle.lineage_index.specs.Heads.{KeyStates, AreHeads, fresh_entry, newest_at, open_list}
use Rattle.lineage_index.specs.Closed.{AreClosed}

-- The entry of a key of a history, or that of a key without versions.
abbrev pub entry_or_fresh : List Row → List ℕ → Entry
entry_or_fresh rows key = if is_among (keys_of rows) key then entry_of rows key else fresh_entry

-- The states of the keys after the rows `done`, which come after `rows`, became the newest versions
-- of their keys. The leaves are as before.
abbrev pub settled_states : List Row → (List ℕ → List Use) → List Row → KeyStates
settled_states rows list done = record {
  keys = keys_of (rows ++ done);
  entry = entry_or_fresh rows;
  list = list_after_rows list done;
  index = newest_at (rows ++ done);
}

-- What is kept while the rows of block n become the newest versions of their keys: `done` have
-- become so. The uses of all rows of the block are in the lists.
pub record AreSettling (rows new done : List Row) (n : ℕ) (tree : List Leaf) (lists : List KeptList)
    (newest : List ℕ) (closed : List (List ℕ)) : Type 0 where
  pub grows : Grows rows new n
  pub heads : AreHeads tree lists newest (settled_states rows (open_uses rows new) done)
  pub closed_are : AreClosed (rows ++ new) (rows ++ done) closed

-- The states of the keys of a history, of which the keys `done` have their new leaves.
abbrev pub renewed_states : List Row → (List ℕ → Entry) → List (List ℕ) → KeyStates
renewed_states rows entry done = record {
  keys = keys_of rows;
  entry = entry_after entry (entry_of rows) done;
  list = open_list rows;
  index = newest_at rows;
}

-- These rows are a lawful history, and these are their entries.
pub record IsStoreOf (rows : List Row) (entries : List StoreEntry) : Type 0 where
  pub lawful : IsLawful rows
  pub entries_are : entries ≡ entries_of rows rows

-- What is kept of all rows of a history, and of its keys, of which the keys `done` have their new
-- leaves.
pub record AreRenewing (rows : List Row) (entry : List ℕ → Entry) (done : List (List ℕ))
    (tree : List Leaf) (lists : List KeptList) (newest : List ℕ) (entries : List StoreEntry) :
    Type 0 where
  pub store : IsStoreOf rows entries
  pub heads : AreHeads tree lists newest (renewed_states rows entry done)
