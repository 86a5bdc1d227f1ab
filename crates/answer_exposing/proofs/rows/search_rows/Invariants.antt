use Rattle.std.proofs.Common.{◌≡◌, true, drop}
use Rattle.std.specs.List.{flat_map}
use Rattle.lc_io.specs.Scratch.{is_known}
use Rattle.merkle_dag.specs.Lineage.{StaysSame}
use Rattle.proof_checks.specs.LedgerTexts.{texts_of_row}
use Rattle.answer_exposing.proofs.Onward.{SearchesUpTo}
use Rattle.answer_exposing.proofs.rows.search_rows.Given as goal

abbrev pub invariant-loop-index : goal.invariant-loop-index
invariant-loop-index g l = record {
  same : StaysSame l.fn.lineage (g.S.Scratch.state l.fn.scratch) l.lineage
      (g.S.Scratch.state l.scratch);
  texts : is_known (g.S.Scratch.state l.fn.scratch) ≡ true
      → SearchesUpTo (flat_map (texts_of_row l.fn.lineage.rows) (drop l.index l.fn.lineage.rows))
      (flat_map (texts_of_row l.fn.lineage.rows) l.fn.lineage.rows) l.fn.search l.search;
  no_fault : g.S.Scratch.scratch_faults l.scratch ≡ g.S.Scratch.scratch_faults l.fn.scratch;
}
