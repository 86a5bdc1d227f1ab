use Rattle.std.proofs.Common.{◌≡◌}
use Rattle.std.specs.List.{Contains}
use Rattle.lc_base.specs.declared.row.Row.{Row}
use Rattle.row_walks.proofs.OneMore.{IsReaching}
use Rattle.row_walks.proofs.tracing.reached.Given as goal

abbrev pub invariant-loop-left : goal.invariant-loop-left
invariant-loop-left l = record {
  same : l.rows ≡ l.fn.rows;
  reaching : (row : Row) → Contains l.fn.rows row → l.deps ≡ row.deps
      → IsReaching l.fn.rows row.deps l.left l.found l.wanted;
}

abbrev pub decreases-loop-left : goal.decreases-loop-left
decreases-loop-left l = l.left
