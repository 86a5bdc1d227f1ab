use Rattle.std.proofs.Common.{◌≡◌, ◌++◌, ℕ, List, take}
use Rattle.lc_base.specs.declared.row.Row.{Row}
use Rattle.lineage_index.specs.Entries.{entries_of}
use Rattle.lineage_index.specs.NewEntries.{AreUsing}
use Rattle.lineage_index.proofs.new_entries.add_entries.Given as goal

abbrev pub invariant-loop-index : goal.invariant-loop-index
invariant-loop-index l =
    (rows : List Row) (n : ℕ) → AreUsing rows l.new n l.tree l.lists l.newest → l.initial.store ≡ entries_of rows rows → l.store ≡ entries_of (rows ++ l.new) (rows ++ take l.index l.new)
