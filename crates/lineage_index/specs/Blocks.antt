-- The invariant that each block keeps: all that is kept is determined by the rows so far.
use Rattle.std.specs.Prelude.{ℕ, ◌<◌, List}
use Rattle.std.specs.List.{All, concat}
use Rattle.lc_base.specs.declared.row.Row.{Row}
use Rattle.entry_views.specs.prov_entry.declared.entry.Leaf.{Leaf}
use Rattle.entry_views.specs.prov_entry.Spelling.{body_fields}
use Rattle.plain_rows.specs.root_laws.Naming.{body_of}
use Rattle.skip_list.specs.entry_store.Entries.{Entry as StoreEntry}
use Rattle.forward_links.specs.declared.kept_list.KeptList.{KeptList}
use Rattle.lineage_index.specs.Heads.{AreHeads, states_of}
use Rattle.lineage_index.specs.Settling.{IsStoreOf}
use Rattle.lineage_index.specs.Closed.{AreClosed}

-- The bytes of the fields of the body of a row of a history.
abbrev pub bytes_of_body : List Row → Row → List ℕ
bytes_of_body rows row = concat (body_fields (body_of rows row))

-- The leaves, lists, indexes, entries and closed lists are those of these rows, which are all of
-- blocks before this one.
pub record IsKeptIndex (rows : List Row) (block : ℕ) (tree : List Leaf) (lists : List KeptList)
    (newest : List ℕ) (entries : List StoreEntry) (closed : List (List ℕ)) : Type 0 where
  pub store : IsStoreOf rows entries
  pub within : All (λ (row : Row). row.block < block) rows
  pub heads : AreHeads tree lists newest (states_of rows)
  pub closed_are : AreClosed rows rows closed
