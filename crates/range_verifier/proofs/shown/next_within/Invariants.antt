use Rattle.std.proofs.Common.{◌≡◌, filter, length}
use Rattle.proof_verifier.specs.proof_checks.RangeChecks.{is_within}
use Rattle.range_verifier.proofs.shown.next_within.Given as goal

abbrev pub invariant-loop-header : goal.invariant-loop-header
invariant-loop-header l =
    filter (is_within l.from l.to) l.headers ≡ filter (is_within l.from l.to) l.fn.headers

abbrev pub decreases-loop-header : goal.decreases-loop-header
decreases-loop-header l = length l.headers
