-- What a version must be to become the next entry.
use Rattle.std.specs.Prelude.{◌≡◌, ◌∷◌, ◌++◌, ℕ, List, length, Option}
use Rattle.std.specs.List.{concat}
use Rattle.lc_base.specs.declared.row.Row.{Row}
use Rattle.lc_base.specs.History.{IsLawful, up_to}
use Rattle.entry_views.specs.prov_entry.Spelling.{body_fields}
use Rattle.plain_rows.specs.root_laws.Naming.{closed_uses, digest_of_uses, body_of}
use Rattle.skip_list.specs.entry_store.declared.entry.EntryId.{EntryId}
use Rattle.skip_list.specs.entry_store.Entries.{Entry}
use Rattle.lineage_index.specs.declared.growing.NewVersion.{NewVersion}
use Rattle.lineage_index.specs.Versions.{newest_entry}
use Rattle.lineage_index.specs.Entries.{entries_of}

-- The entries are those of the first rows of a lawful history, which has all rows of the block at work;
-- the next of its rows comes after them, this is its version with these bytes as its body, and `newest`
-- is the entry of the newest version of its key.
pub record IsNextVersion (all rows : List Row) (row : Row) (newest : Option EntryId) (entries : List Entry) (version : NewVersion) (body : List ℕ) : Type 0 where
  pub lawful : IsLawful all
  pub after : List Row
  pub first : all ≡ rows ++ row ∷ after
  pub entries_are : entries ≡ entries_of all rows
  pub newest_is : newest ≡ newest_entry rows row.key
  pub key_is : version.key ≡ row.key
  pub block_is : version.block ≡ row.block
  pub tx_is : version.tx ≡ row.tx
  pub closed_is : version.closed ≡ length (closed_uses (up_to all row.block) row.key row.block)
  pub closed_digest_is : version.closed_digest ≡ digest_of_uses (closed_uses (up_to all row.block) row.key row.block)
  pub body_is : body ≡ concat (body_fields (body_of all row))
