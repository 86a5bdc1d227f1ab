use Rattle.std.proofs.Common.{◌≡◌, ◌≤◌, true, length, take}
use Rattle.std.specs.List.{All, AllByRecursion, filter_map}
use Rattle.lc_io.specs.Scratch.{is_known}
use Rattle.prov_query.specs.merkle_dag.Lineage.{StaysSame}
use Rattle.proof_checks.specs.TraceMaking.{item_in}
use Rattle.proof_checks.specs.TraceTexts.{IsTraceItem}
use Rattle.lineage_trace.specs.Items.{IsLastUpToItself}
use Rattle.lineage_trace.proofs.items.items_of.Given as goal

abbrev pub invariant-loop-version : goal.invariant-loop-version
invariant-loop-version g l = record {
  same : StaysSame l.fn.lineage (g.S.Scratch.state l.fn.scratch) l.lineage
      (g.S.Scratch.state l.scratch);
  no_fault : g.S.Scratch.scratch_faults l.scratch ≡ g.S.Scratch.scratch_faults l.fn.scratch;
  items : is_known (g.S.Scratch.state l.fn.scratch) ≡ true
      → All (IsLastUpToItself l.fn.lineage.rows) l.versions
      → l.items ≡ filter_map (item_in l.fn.lineage.rows) (take l.version-index l.versions);
  lawful : AllByRecursion IsTraceItem l.items;
  few : length l.items ≤ l.version-index;
}
