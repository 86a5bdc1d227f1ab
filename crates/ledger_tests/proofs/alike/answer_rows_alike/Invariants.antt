use Rattle.lc_io.specs.MemScratch.{state_over}
use Rattle.merkle_dag.specs.Lineage.{AgreesWith}
use Rattle.ledger_tests.proofs.alike.answer_rows_alike.Given as goal

abbrev pub invariant-loop-index : goal.invariant-loop-index
invariant-loop-index l = AgreesWith l.lineage (state_over l.scratch.bytes)
