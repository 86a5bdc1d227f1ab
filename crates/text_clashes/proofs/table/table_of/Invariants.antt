use Rattle.std.proofs.Common.{take}
use Rattle.text_clashes.specs.Places.{IsTable}
use Rattle.text_clashes.proofs.table.table_of.Given as goal

abbrev pub invariant-loop-place : goal.invariant-loop-place
invariant-loop-place l = IsTable (take l.place l.texts) l.table
