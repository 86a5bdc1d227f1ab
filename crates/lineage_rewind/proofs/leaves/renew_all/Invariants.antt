use Rattle.std.proofs.Common.{◌≡◌, List, [], ℕ, map}
use Rattle.std.specs.List.{range_with_len}
use Rattle.lc_base.specs.declared.row.Row.{Row}
use Rattle.lineage_index.specs.state_tree.Leaves.{with_states}
use Rattle.lineage_index.specs.Growth.{Entry}
use Rattle.lineage_index.specs.Leaves.{state_of}
use Rattle.lineage_index.specs.Settling.{AreRenewing}
use Rattle.lineage_rewind.proofs.leaves.renew_all.Given as goal

abbrev pub invariant-loop-key : goal.invariant-loop-key
invariant-loop-key l = (rows : List Row) (entry : List ℕ → Entry)
    → AreRenewing rows entry [] l.fn.tree l.lists l.newest l.store
    → l.tree ≡ with_states l.fn.tree (map (state_of rows) (range_with_len 1 l.key))
