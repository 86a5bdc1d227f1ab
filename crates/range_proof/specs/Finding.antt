-- Rows that are found by their indexes.
use Rattle.std.specs.Prelude.{◌≡◌, ℕ, nat_le, if◌then◌else◌, List, map, Option, Some, None}
use Rattle.std.specs.Prelude.{slice_get}
use Rattle.lc_base.specs.declared.row.Row.{Row}
use Rattle.entry_store.specs.declared.entry.Hop.{Hop}

-- These are the rows at these indexes, one after another.
abbrev pub AreRowsAt : List Row → List ℕ → List Row → Type 0
AreRowsAt rows indexes found = map (slice_get rows) indexes ≡ map Some found

-- The row, unless it is of a block before this one.
abbrev pub unless_before : ℕ → Option Row → Option Row
unless_before from None = None
unless_before from (Some row) = if nat_le from row.block then Some row else None

-- The index of the row that a link leads to, unless it is of a block before this one.
abbrev pub index_unless_before : ℕ → Option Hop → Option ℕ
index_unless_before from None = None
index_unless_before from (Some hop) = if nat_le from hop.block then Some hop.id.0 else None
