-- How the rows of a history are kept: a dependency as the index of its row.
use Rattle.std.specs.Prelude.{◌≡◌, ℕ, List, [], ◌∷◌, ◌++◌, length, slice_get, Option, None, Some}
use Rattle.std.specs.List.{filter_map, All}
use Rattle.lc_base.specs.declared.row.Row.{Row}
use Rattle.lc_base.specs.declared.row.Dep.{Dep}
use Rattle.lc_base.specs.History.{IsLawful}
use Rattle.plain_rows.specs.declared.index.RowsIndex.{RowsIndex}
use Rattle.plain_rows.specs.Index.{IsIndexOf}
use Rattle.plain_rows.specs.Users.{AreVersionsAt, version_at}
use Rattle.root_laws.specs.TypedLedger.{IsTypedRow}
use Rattle.plain_rows.specs.declared.kept.KeptRow.{KeptRow}

-- The row that is kept, after these rows: its dependencies are the versions at their indexes.
abbrev pub row_of : List Row → KeptRow → Row
row_of rows kept = record { key = kept.key; block = kept.block; tx = kept.tx; value = kept.value; deps = filter_map (version_at rows) kept.deps }

-- These rows, and after them those that are kept, one after another.
abbrev pub rows_with : List Row → List KeptRow → List Row
rows_with rows [] = rows
rows_with rows (kept ∷ more) = rows_with (rows ++ row_of rows kept ∷ []) more

-- The rows that are kept.
unfoldable pub rows_of : List KeptRow → List Row
rows_of kept = rows_with [] kept

-- A row is kept so: its dependencies are the versions at the indexes that are kept.
pub record IsKeptAs (rows : List Row) (kept : KeptRow) (row : Row) : Type 0 where
  pub key_is : kept.key ≡ row.key
  pub block_is : kept.block ≡ row.block
  pub tx_is : kept.tx ≡ row.tx
  pub value_is : kept.value ≡ row.value
  pub deps_are : AreVersionsAt rows kept.deps row.deps

-- Each of these rows is kept, in order.
pub record AreKept (rows : List Row) (kept : List KeptRow) : Type 0 where
  pub long : length kept ≡ length rows
  pub each : (index : ℕ) (row : Row) → slice_get rows index ≡ Some row → (item : KeptRow) × (slice_get kept index ≡ Some item) × IsKeptAs rows item row

-- A lawful history is kept, with the index over it.
pub record Holds (rows : List Row) (kept : List KeptRow) (index : RowsIndex) : Type 0 where
  pub lawful : IsLawful rows
  pub kept_are : AreKept rows kept
  pub index_is : IsIndexOf rows index

-- The index over the rows, or none.
abbrev pub IsIndexOrNone : List Row → Option RowsIndex → Type 0
IsIndexOrNone rows None = Unit {0}
IsIndexOrNone rows (Some index) = IsIndexOf rows index

-- A lawful history is kept, with the index over it or none. Its rows are within their types.
pub record KeepsRows (rows : List Row) (kept : List KeptRow) (index : Option RowsIndex) : Type 0 where
  pub lawful : IsLawful rows
  pub typed : All IsTypedRow rows
  pub kept_are : AreKept rows kept
  pub index_is : IsIndexOrNone rows index

-- These are the indexes of the versions of a list; if there is no list, there are no indexes.
abbrev pub IsListAt : List Row → Option (List ℕ) → Option (List Dep) → Type 0
IsListAt rows None list = list ≡ None
IsListAt rows (Some indexes) list = (deps : List Dep) × (list ≡ Some deps) × AreVersionsAt rows indexes deps

-- This is a row as it is kept; if there is no row, none is kept.
abbrev pub IsFound : List Row → Option KeptRow → Option Row → Type 0
IsFound rows None found = found ≡ None
IsFound rows (Some kept) found = (row : Row) × (found ≡ Some row) × IsKeptAs rows kept row
