use Rattle.std.proofs.Common.{◌≡◌, ◌≤◌, ◌+◌, ◌*◌, true, length}
use Rattle.std.specs.List.{Contains}
use Rattle.lc_base.specs.declared.row.Row.{Row}
use Rattle.lc_io.specs.Scratch.{is_known}
use Rattle.entry_store.specs.Steps.{raised_count}
use Rattle.prov_query.specs.merkle_dag.Ledger.{most_looked_at}
use Rattle.prov_query.specs.merkle_dag.Lineage.{StaysSame}
use Rattle.root_laws.specs.AncestorSteps.{steps_of}
use Rattle.row_walks.proofs.OneMore.{IsReaching}
use Rattle.lineage_trace.proofs.reaching.reached.Given as goal

abbrev pub invariant-loop-left : goal.invariant-loop-left
invariant-loop-left g l = record {
  same : StaysSame l.fn.lineage (g.S.Scratch.state l.fn.scratch) l.lineage
      (g.S.Scratch.state l.scratch);
  no_fault : g.S.Scratch.scratch_faults l.scratch ≡ g.S.Scratch.scratch_faults l.fn.scratch;
  room : length l.found + l.left ≡ length l.fn.lineage.rows;
  few : l.steps ≤ l.fn.steps + length l.found * most_looked_at l.fn.lineage.digests;
  counted : l.steps ≡ raised_count l.fn.steps (steps_of l.fn.lineage.rows l.found);
  reaching : is_known (g.S.Scratch.state l.fn.scratch) ≡ true → (row : Row)
      → Contains l.fn.lineage.rows row → l.deps ≡ row.deps
      → IsReaching l.fn.lineage.rows row.deps l.left l.found l.wanted;
}

abbrev pub decreases-loop-left : goal.decreases-loop-left
decreases-loop-left g l = l.left
