use Rattle.std.proofs.Common.{List, take}
use Rattle.lc_base.specs.declared.row.Row.{Row}
use Rattle.plain_rows.specs.Users.{AreUsersWith, AreVersionsAt, CanUse}
use Rattle.plain_rows.proofs.users.add_to_versions.Given as goal

abbrev pub invariant-loop-dep : goal.invariant-loop-dep
invariant-loop-dep l = record {
  users : (rows : List Row) → CanUse rows l.deps l.places l.fn.users.items
      → AreUsersWith rows (take l.dep-index l.deps) l.row l.users.items;
  indexes : (rows : List Row) → CanUse rows l.deps l.places l.fn.users.items
      → AreVersionsAt rows l.indexes.items (take l.dep-index l.deps);
}
