use Rattle.std.proofs.Common.{List, take}
use Rattle.lc_base.specs.declared.row.Row.{Row}
use Rattle.plain_rows.specs.Users.{AreVersionsAt}
use Rattle.plain_rows.specs.Kept.{AreKept}
use Rattle.plain_rows.proofs.kept.collect_versions.Given as goal

abbrev pub invariant-loop-row : goal.invariant-loop-row
invariant-loop-row l = (all : List Row) → AreKept all l.rows → AreVersionsAt all (take l.row-index l.indexes) l.deps.items
