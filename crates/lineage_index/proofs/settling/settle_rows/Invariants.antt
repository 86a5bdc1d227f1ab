use Rattle.std.proofs.Common.{◌≡◌, ◌+◌, ℕ, List, [], take, length}
use Rattle.lc_base.specs.declared.row.Row.{Row}
use Rattle.lineage_index.specs.Settling.{AreSettling}
use Rattle.lineage_index.proofs.settling.settle_rows.Given as goal

abbrev pub invariant-loop-row : goal.invariant-loop-row
invariant-loop-row l = record {
  at : l.index ≡ l.first + l.row-index;
  settled : (rows : List Row) (n : ℕ)
      → AreSettling rows l.new [] n l.initial.tree l.initial.lists l.initial.newest.items
      l.initial.closed.items
      → l.first ≡ length rows
      → AreSettling rows l.new (take l.row-index l.new) n l.tree l.lists l.newest.items
      l.closed.items;
}
