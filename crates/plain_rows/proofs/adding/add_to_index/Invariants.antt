use Rattle.std.proofs.Common.{◌≡◌, List, ◌++◌, take}
use Rattle.std.specs.List.{All}
use Rattle.lc_base.specs.declared.row.Row.{Row}
use Rattle.lc_base.specs.History.{IsLawful}
use Rattle.plain_rows.specs.Index.{IsIndexOf}
use Rattle.root_laws.specs.TypedLedger.{IsTypedRow}
use Rattle.plain_rows.specs.declared.kept.KeptRow.{KeptRow}
use Rattle.plain_rows.specs.Kept.{AreKept, rows_with}
use Rattle.plain_rows.proofs.adding.add_to_index.Given as goal

abbrev pub invariant-loop-row : goal.invariant-loop-row
invariant-loop-row l = record {
  index : (rows : List Row) → IsLawful (rows ++ l.new) → IsIndexOf rows l.fn.index → IsIndexOf (rows ++ take l.row-index l.new) l.index;
  rows : (rows : List Row) → IsLawful (rows ++ l.new) → IsIndexOf rows l.fn.index → rows_with rows l.more.items ≡ rows ++ take l.row-index l.new;
  kept : (rows : List Row) (before : List KeptRow) → IsLawful (rows ++ l.new) → IsIndexOf rows l.fn.index → AreKept rows before → AreKept (rows ++ take l.row-index l.new) (before ++ l.more.items);
  typed : All IsTypedRow (take l.row-index l.new);
}
