use Rattle.std.proofs.Common.{take}
use Rattle.std.specs.List.{All}
use Rattle.lineage_rewind.specs.root_laws.TypedLedger.{IsTypedRow}
use Rattle.merkle_dag.proofs.adding.check_rows.Given as goal

abbrev pub invariant-loop-row : goal.invariant-loop-row
invariant-loop-row l = All IsTypedRow (take l.row-index l.rows)
