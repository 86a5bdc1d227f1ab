use Rattle.std.proofs.Common.{◌≡◌, true, List, map, take}
use Rattle.lc_base.specs.declared.row.Row.{Row}
use Rattle.lc_io.specs.Scratch.{is_known}
use Rattle.prov_query.specs.merkle_dag.Lineage.{StaysSame}
use Rattle.root_laws.specs.Ranges.{as_version}
use Rattle.range_proof.specs.Finding.{AreRowsAt}
use Rattle.range_proof.specs.Telling.{place_of}
use Rattle.range_proof.proofs.Told.{place_told}
use Rattle.range_proof.proofs.reading.versions_at.Given as goal

abbrev pub invariant-loop-index : goal.invariant-loop-index
invariant-loop-index g l = record {
  same : StaysSame l.fn.lineage (g.S.Scratch.state l.fn.scratch) l.lineage
      (g.S.Scratch.state l.scratch);
  no_fault : g.S.Scratch.scratch_faults l.scratch ≡ g.S.Scratch.scratch_faults l.fn.scratch;
  versions : is_known (g.S.Scratch.state l.fn.scratch) ≡ true → (found : List Row)
      → AreRowsAt l.fn.lineage.rows l.indexes found
      → l.versions ≡ map as_version (take l.index-index found);
  always : (found : List Row) → AreRowsAt l.fn.lineage.rows l.indexes found
      → map place_of l.versions ≡ map place_told (take l.index-index found);
}
