use Rattle.lc_io.specs.MemScratch.{state_over}
use Rattle.merkle_dag.specs.Lineage.{AgreesWith}
use Rattle.ledger_tests.proofs.alike.answer_row_alike.Given as goal

abbrev pub invariant-loop-question : goal.invariant-loop-question
invariant-loop-question l = AgreesWith l.lineage (state_over l.scratch.bytes)
