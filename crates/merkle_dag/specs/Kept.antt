-- What a lineage keeps, and that its parts are of one ledger.
use Rattle.std.specs.Prelude.{◌≡◌, List, length, map, Option}
use Rattle.std.specs.List.{All}
use Rattle.lc_base.specs.declared.digest.Digest.{Digest}
use Rattle.lc_base.specs.declared.row.Row.{Row}
use Rattle.lineage_rewind.specs.root_laws.TypedLedger.{IsTypedRow}
use Rattle.body_store.specs.Bodies.{BodiesState, bodies_in}
use Rattle.lineage_rewind.specs.entry_store.Entries.{Entry}
use Rattle.lineage_rewind.specs.lineage_index.ReadBack.{rows_read}
use Rattle.lineage_rewind.specs.lineage_index.Index.{IsIndexOf}
use Rattle.lineage_rewind.specs.lineage_index.declared.index.LineageIndex.{LineageIndex}
use Rattle.merkle_dag.specs.declared.kept.Kept.{Kept}
use Rattle.merkle_dag.specs.Ledger.{IsLedger, AreRootsMade}

-- The rows that an index is over, as they are read from its entries. No row is kept.
unfoldable pub rows_kept : LineageIndex → List Row
rows_kept index = rows_read index.store

-- Rows and digests of a ledger, within their types; the index over the rows, the bodies of the
-- entries, one after another, and the roots of blocks as far as they were made.
pub record KeepsLineage (rows : List Row) (index : LineageIndex) (bodies : BodiesState)
    (digests : List Digest) (roots : List (Option Digest)) : Type 0 where
  pub ledger : IsLedger rows digests
  pub typed : All IsTypedRow rows
  pub digests_fit : All (λ (digest : Digest). length digest.0 ≡ 32) digests
  pub index_is : IsIndexOf rows (length digests) index
  pub bodies_are : bodies_in bodies ≡ map (λ (entry : Entry). entry.body) index.store
  pub roots_are : AreRootsMade rows digests roots

-- All parts that are kept are of one ledger, whose rows are those that are read back.
abbrev pub IsWhole : Kept → Type 0
IsWhole kept = KeepsLineage (rows_kept kept.index) kept.index kept.bodies kept.digests.items
    kept.roots.items
