use Rattle.std.proofs.Common.{◌≡◌, ◌++◌, map, length}
use Rattle.proof_verifier.specs.proof_checks.RangeChecks.{version_shown}
use Rattle.range_verifier.proofs.versions.copied.Given as goal

abbrev pub invariant-loop-version : goal.invariant-loop-version
invariant-loop-version l =
    l.versions ++ map version_shown l.shown ≡ map version_shown l.fn.shown

abbrev pub decreases-loop-version : goal.decreases-loop-version
decreases-loop-version l = length l.shown
