use Rattle.std.proofs.Common.{◌≡◌}
use Rattle.lc_io.specs.Scratch.{is_known, Retains}
use Rattle.rooted_chain.specs.merkle_dag.Lineage.{AgreesWith}
use Rattle.rooted_chain.specs.Roots.{kept_in, lineage_in}
use Rattle.chain_load.specs.Building.{HasAdded}
use Rattle.chain_load.proofs.building.chain_made.Given as goal

abbrev pub invariant-loop : goal.invariant-loop
invariant-loop g l = record {
  added : HasAdded (is_known (g.S.Scratch.state l.initial.scratch)) l.fn.seed l.fn.blocks l.counter
      (kept_in l.building.chain) l.building.generator l.building.parent;
  agrees : AgreesWith (lineage_in l.building.chain) (g.S.Scratch.state l.scratch);
  retains : Retains (g.S.Scratch.state l.initial.scratch) (g.S.Scratch.state l.scratch);
  no_fault : g.S.Scratch.scratch_faults l.scratch ≡ g.S.Scratch.scratch_faults l.initial.scratch;
}
