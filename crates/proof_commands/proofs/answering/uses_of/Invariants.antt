use Rattle.std.proofs.Common.{◌≡◌, ◌++◌, length}
use Rattle.proof_commands.proofs.answering.uses_of.Given as goal

abbrev pub invariant-loop-dep : goal.invariant-loop-dep
invariant-loop-dep l = l.list ++ l.rest ≡ l.uses

abbrev pub decreases-loop-dep : goal.decreases-loop-dep
decreases-loop-dep l = length l.rest
