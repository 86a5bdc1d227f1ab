use Rattle.std.proofs.Common.{length}
use Rattle.range_verifier.proofs.Counting.{IsCounted}
use Rattle.range_verifier.proofs.within.count_within.Given as goal

abbrev pub invariant-loop-header : goal.invariant-loop-header
invariant-loop-header l = IsCounted l.from l.to l.headers l.count l.rest

abbrev pub decreases-loop-header : goal.decreases-loop-header
decreases-loop-header l = length l.rest
