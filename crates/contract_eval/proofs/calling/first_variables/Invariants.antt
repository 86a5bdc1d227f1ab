use Rattle.std.proofs.Common.{◌≡◌, ◌++◌, drop}
use Rattle.eval_expressions.specs.contract_semantics.Calls.{first_variables}
use Rattle.contract_eval.proofs.calling.first_variables.Given as goal

abbrev pub invariant-loop-i : goal.invariant-loop-i
invariant-loop-i l = l.variables ++ first_variables (drop l.i l.params) (drop l.i l.args) ≡ first_variables l.params l.args
