use Rattle.std.proofs.Common.{ℕ, List, [], take}
use Rattle.lc_base.specs.declared.row.Row.{Row}
use Rattle.lineage_rewind.specs.Front.{AreFilling, AreFirst}
use Rattle.lineage_rewind.proofs.settling.settle_entries.Given as goal

abbrev pub invariant-loop-index : goal.invariant-loop-index
invariant-loop-index l =
    (all rows : List Row) (n : ℕ) → AreFirst all rows n l.whole l.store
    → AreFilling rows [] l.initial.tree l.initial.lists l.initial.newest.items
    l.initial.closed.items
    → AreFilling rows (take l.index rows) l.tree l.lists l.newest.items l.closed.items
