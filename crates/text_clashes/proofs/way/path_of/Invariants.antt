use Rattle.std.proofs.Common.{◌≡◌, ◌++◌, length}
use Rattle.text_clashes.proofs.way.path_of.Given as goal

abbrev pub invariant-loop-digest : goal.invariant-loop-digest
invariant-loop-digest l = l.path ++ l.audit ≡ l.fn.audit

abbrev pub decreases-loop-digest : goal.decreases-loop-digest
decreases-loop-digest l = length l.audit
