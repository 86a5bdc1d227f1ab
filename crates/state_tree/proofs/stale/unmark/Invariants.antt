use Rattle.std.proofs.Common.{◌≡◌, ℕ, true, length, drop}
use Rattle.std.specs.List.{Contains}
use Rattle.state_tree.specs.Stale.{is_marked}
use Rattle.state_tree.proofs.stale.unmark.Given as goal

abbrev pub invariant-loop-index : goal.invariant-loop-index
invariant-loop-index l = record {
  long : length l.marks ≡ length l.fn.marks;
  left : (index : ℕ) → is_marked l.marks index ≡ true → Contains (drop l.index-index l.list) index;
}
