use Rattle.std.proofs.Common.{List, take}
use Rattle.lc_base.specs.declared.row.Row.{Row}
use Rattle.lc_base.specs.History.{IsLawful}
use Rattle.plain_rows.specs.Index.{IsIndexOf}
use Rattle.plain_rows.specs.Kept.{AreKept}
use Rattle.plain_rows.proofs.adding.index_over.Given as goal

abbrev pub invariant-loop-kept : goal.invariant-loop-kept
invariant-loop-kept l = (all : List Row) → IsLawful all → AreKept all l.rows → IsIndexOf (take l.kept-index all) l.index
