use Rattle.std.proofs.Common.{◌≡◌}
use Rattle.row_walks.proofs.Versions.{IsRanging, turns_left}
use Rattle.row_walks.proofs.ranging.range.Given as goal

abbrev pub invariant-loop-up_to : goal.invariant-loop-up_to
invariant-loop-up_to l = record {
  same : l.rows ≡ l.fn.rows;
  so_far : IsRanging l.fn.rows l.key l.from l.to l.found.items l.up_to;
}

abbrev pub decreases-loop-up_to : goal.decreases-loop-up_to
decreases-loop-up_to l = turns_left l.up_to
