use Rattle.std.proofs.Common.{◌≡◌, ◌++◌, map, take}
use Rattle.lc_base.specs.declared.row.Row.{Row}
use Rattle.lineage_index.specs.Growth.{deps_touched}
use Rattle.lineage_index.specs.Leaves.{leaf_indexes}
use Rattle.lineage_index.proofs.indexes.touched_indexes.Given as goal

abbrev pub invariant-loop-row : goal.invariant-loop-row
invariant-loop-row l = l.indexes.items ≡ leaf_indexes l.tree (deps_touched l.new ++
    map (λ (row : Row). row.key) (take l.row-index l.new))
