use Rattle.std.proofs.Common.{◌≡◌, ◌+◌, ◌^◌, ◌<◌, ℕ, length}
use Rattle.proof_verifier.specs.proof_checks.TraceChecks.{after_items}
use Rattle.trace_verifier.specs.Wanting.{ItemsWant}
use Rattle.trace_verifier.proofs.items.check_items.Given as goal

abbrev pub invariant-loop-item : goal.invariant-loop-item
invariant-loop-item l =
    (l.number + length l.items < 2 ^ 32)
    × (after_items l.number l.items l.wanted ≡ after_items 1 l.fn.items l.fn.wanted)
    × ((short : ℕ) → ItemsWant l.number l.items l.wanted short
    → ItemsWant 1 l.fn.items l.fn.wanted short)

abbrev pub decreases-loop-item : goal.decreases-loop-item
decreases-loop-item l = length l.items
