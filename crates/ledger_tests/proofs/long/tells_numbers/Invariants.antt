use Rattle.merkle_dag.specs.Lineage.{AgreesWith}
use Rattle.ledger_tests.proofs.long.tells_numbers.Given as goal

abbrev pub invariant-loop-number : goal.invariant-loop-number
invariant-loop-number g l = AgreesWith l.lineage (g.S.Scratch.state l.scratch)
