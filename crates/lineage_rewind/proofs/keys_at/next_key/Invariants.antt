use Rattle.std.proofs.Common.{◌≡◌, ℕ, ◌<◌, ◌-◌, List, take}
use Rattle.lc_base.specs.declared.row.Row.{Row}
use Rattle.lineage_index.specs.root_laws.Root.{keys_of, next_key}
use Rattle.lineage_index.specs.Index.{IsIndexOf}
use Rattle.lineage_rewind.proofs.keys_at.next_key.Given as goal

abbrev pub invariant-loop-leaf : goal.invariant-loop-leaf
invariant-loop-leaf l = (0 < l.leaf)
    × ((rows : List Row) (n : ℕ) → IsIndexOf rows n l.index
    → l.next ≡ next_key (take (l.leaf - 1) (keys_of rows)) l.after)
