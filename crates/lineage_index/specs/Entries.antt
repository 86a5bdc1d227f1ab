-- The entries of the rows of a history.
use Rattle.std.specs.Prelude.{◌≡◌, ℕ, List, [], ◌∷◌, ◌++◌, Option}
use Rattle.std.specs.List.{concat}
use Rattle.lc_base.specs.declared.row.Row.{Row}
use Rattle.lc_base.specs.History.{IsLawful}
use Rattle.entry_views.specs.prov_entry.Spelling.{body_fields}
use Rattle.plain_rows.specs.root_laws.Naming.{header_of, body_of}
use Rattle.skip_list.specs.entry_store.declared.entry.EntryId.{EntryId}
use Rattle.skip_list.specs.entry_store.Entries.{Entry, facts_of}
use Rattle.lineage_index.specs.Versions.{links_after, newest_entry}

-- The entry of a row of a history, from the rows before it: the links to the versions of its key
-- before it, what its header says, and the fields of its body.
abbrev pub entry_for : List Row → List Row → Row → Entry
entry_for all before row = record {
  links = links_after before row;
  facts = facts_of (header_of all row);
  body = concat (body_fields (body_of all row));
}

-- The entries of some rows of a history, from the rows before them.
unfoldable pub entries_after : List Row → List Row → List Row → List Entry
entries_after all before [] = []
entries_after all before (row ∷ rows) = entry_for all before row ∷ entries_after all (before ++ row ∷ []) rows

-- The entries of the first rows of a history: row by row one, so that the id of an entry is the index of
-- its row.
abbrev pub entries_of : List Row → List Row → List Entry
entries_of all rows = entries_after all [] rows

-- The entries are those of a lawful history, and this one is that of the newest version of a key.
pub record IsNewestOf (rows : List Row) (key : List ℕ) (newest : Option EntryId) (entries : List Entry) : Type 0 where
  pub lawful : IsLawful rows
  pub entries_are : entries ≡ entries_of rows rows
  pub newest_is : newest ≡ newest_entry rows key
