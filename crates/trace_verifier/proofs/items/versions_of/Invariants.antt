use Rattle.std.proofs.Common.{◌≡◌, ◌++◌, map, length}
use Rattle.proof_verifier.specs.proof_checks.TraceChecks.{version_of_item}
use Rattle.trace_verifier.proofs.items.versions_of.Given as goal

abbrev pub invariant-loop-item : goal.invariant-loop-item
invariant-loop-item l = l.versions ++ map version_of_item l.items ≡ map version_of_item l.fn.items

abbrev pub decreases-loop-item : goal.decreases-loop-item
decreases-loop-item l = length l.items
