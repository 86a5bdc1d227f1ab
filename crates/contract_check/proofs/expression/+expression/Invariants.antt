use Rattle.contract_check.proofs.Arguments.{IsSeen}
use Rattle.contract_check.proofs.expression.+expression.Given as goal

abbrev pub invariant-call-loop-i : goal.invariant-call-loop-i
invariant-call-loop-i l = IsSeen l.scope l.args l.params l.i l.wrong
