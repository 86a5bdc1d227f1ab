use Rattle.std.proofs.Common.{◌≡◌, length}
use Rattle.proof_verifier.specs.proof_checks.TraceChecks.{with_deps}
use Rattle.trace_verifier.specs.Wanting.{DepsWant}
use Rattle.trace_verifier.proofs.items.add_all.Given as goal

abbrev pub invariant-loop-dep : goal.invariant-loop-dep
invariant-loop-dep l =
    (with_deps l.number l.block l.deps l.wanted
    ≡ with_deps l.number l.block l.fn.deps l.fn.wanted)
    × (DepsWant l.number l.block l.deps l.wanted
    → DepsWant l.number l.block l.fn.deps l.fn.wanted)

abbrev pub decreases-loop-dep : goal.decreases-loop-dep
decreases-loop-dep l = length l.deps
