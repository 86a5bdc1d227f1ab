use Rattle.std.proofs.Common.{◌≡◌, List, take, map}
use Rattle.std.specs.List.{All}
use Rattle.lc_base.specs.declared.row.Row.{Row}
use Rattle.plain_rows.specs.root_laws.Root.{keys_of}
use Rattle.state_tree.specs.Leaves.{with_states}
use Rattle.lineage_index.specs.Leaves.{AreBesideLeaves, IsLeafIndex, state_of}
use Rattle.lineage_index.proofs.leaves.set_leaves.Given as goal

abbrev pub invariant-loop-index : goal.invariant-loop-index
invariant-loop-index l =
    (rows : List Row) → AreBesideLeaves rows l.lists l.newest l.store → All (IsLeafIndex (keys_of rows)) l.indexes → l.tree ≡ with_states l.fn.tree (map (state_of rows) (take l.index-index l.indexes))
