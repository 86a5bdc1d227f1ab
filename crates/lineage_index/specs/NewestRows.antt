-- The indexes of newest rows are kept in the order of the leaves of their keys.
use Rattle.std.specs.Prelude.{◌≡◌, ℕ, List, map}
use Rattle.lc_base.specs.declared.row.Row.{Row}
use Rattle.entry_views.specs.prov_entry.declared.entry.Leaf.{Leaf}
use Rattle.plain_rows.specs.root_laws.Root.{keys_of}
use Rattle.lineage_index.specs.Growth.{Entry}
use Rattle.lineage_index.specs.Heads.{leaves_with, newest_at}

-- Leaves and the indexes of newest rows are those of the keys of a history.
pub record AreNewest (rows : List Row) (tree : List Leaf) (newest : List ℕ) : Type 0 where
  pub entry : List ℕ → Entry
  pub leaves_are : tree ≡ leaves_with (keys_of rows) entry
  pub newest_are : newest ≡ map (newest_at rows) (keys_of rows)
