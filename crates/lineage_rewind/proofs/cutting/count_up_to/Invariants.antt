use Rattle.std.proofs.Common.{◌≤◌, List, take}
use Rattle.std.specs.List.{All}
use Rattle.lc_base.specs.declared.row.Row.{Row}
use Rattle.lineage_index.specs.Settling.{IsStoreOf}
use Rattle.lineage_rewind.proofs.cutting.count_up_to.Given as goal

abbrev pub invariant-loop-index : goal.invariant-loop-index
invariant-loop-index l = (rows : List Row) → IsStoreOf rows l.store
    → All (λ (row : Row). row.block ≤ l.at) (take l.index rows)
