use Rattle.std.proofs.Common.{◌≡◌}
use Rattle.lc_io.specs.Scratch.{is_known}
use Rattle.rooted_chain.specs.merkle_dag.Ledger.{most_looked_at}
use Rattle.rooted_chain.specs.merkle_dag.Lineage.{StaysSame}
use Rattle.chain_load.proofs.Counting.{IsLooking}
use Rattle.chain_load.proofs.looking.look_up_all.Given as goal

abbrev pub invariant-loop : goal.invariant-loop
invariant-loop g l = record {
  same : StaysSame l.initial.lineage (g.S.Scratch.state l.initial.scratch) l.lineage
      (g.S.Scratch.state l.scratch);
  looking : IsLooking (is_known (g.S.Scratch.state l.initial.scratch)) l.initial.lineage.rows
      (most_looked_at l.initial.lineage.digests) l.fn.blocks l.fn.generator.state l.counter
      l.generator l.looked;
  no_fault : g.S.Scratch.scratch_faults l.scratch ≡ g.S.Scratch.scratch_faults l.initial.scratch;
}
