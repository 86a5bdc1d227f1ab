use Rattle.std.proofs.Common.{◌≡◌, ◌==◌, ◌||◌, ℕ, ◌+◌, ◌≤◌, List, length, take}
use Rattle.std.specs.List.{list_any}
use Rattle.std.specs.Cmp.Lexicographic.{pointwise}
use Rattle.indexmap.specs.IndexSet.{contains, spare}
use Rattle.lc_base.specs.declared.row.Row.{Row}
use Rattle.world_state.proofs.staged.add_keys.Given as goal

abbrev pub invariant-loop-row : goal.invariant-loop-row
invariant-loop-row l = record {
  room : length l.rows ≤ spare l.written + l.row-index;
  keys : (key : List ℕ) → contains (pointwise ◌==◌) l.written key
      ≡ (contains (pointwise ◌==◌) l.fn.written key || list_any (λ (row : Row). pointwise ◌==◌ row.key key) (take l.row-index l.rows));
}
