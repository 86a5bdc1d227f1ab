use Rattle.lc_io.specs.MemScratch.{state_over}
use Rattle.merkle_dag.specs.Lineage.{AgreesWith}
use Rattle.ledger_tests.proofs.acts.all_come_of.Given as goal

abbrev pub invariant-loop-act : goal.invariant-loop-act
invariant-loop-act l = AgreesWith l.lineage (state_over l.scratch.bytes)
