use Rattle.std.proofs.Common.{◌≡◌, ◌+◌, ◌<◌, ◌^◌, length, map}
use Rattle.proof_verifier.specs.proof_checks.RangeChecks.{bodies_fault}
use Rattle.range_verifier.specs.Shown.{header_shown, body_shown}
use Rattle.range_verifier.proofs.bodies.bodies_fault.Given as goal

abbrev pub invariant-loop-version : goal.invariant-loop-version
invariant-loop-version l =
    (l.item + length l.shown < 2 ^ 32)
    × (bodies_fault l.item (map header_shown l.shown) (map body_shown l.shown)
    ≡ bodies_fault 0 (map header_shown l.fn.shown) (map body_shown l.fn.shown))

abbrev pub decreases-loop-version : goal.decreases-loop-version
decreases-loop-version l = length l.shown
