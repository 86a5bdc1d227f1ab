use Rattle.std.proofs.Common.{ℕ, ◌<◌, ◌≤◌, List, length}
use Rattle.lc_base.specs.declared.row.Row.{Row}
use Rattle.lc_base.specs.History.{up_to}
use Rattle.lineage_index.specs.root_laws.Root.{leaves}
use Rattle.lineage_index.specs.Index.{IsIndexOf}
use Rattle.lineage_rewind.proofs.keys_at.count_leaves.Given as goal

abbrev pub invariant-loop-leaf : goal.invariant-loop-leaf
invariant-loop-leaf l = (0 < l.leaf)
    × ((rows : List Row) (n : ℕ) → IsIndexOf rows n l.index
    → l.leaf ≤ length (leaves (up_to rows l.at)))
