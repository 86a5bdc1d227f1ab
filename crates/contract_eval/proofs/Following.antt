-- If a step is done, what follows it is what follows its result.
use Rattle.std.proofs.Common.{◌≡◌, List, Result, sym, subst}
use Rattle.eval_expressions.specs.contract_semantics.declared.variable.Variable.{Variable}
use Rattle.eval_expressions.specs.contract_semantics.declared.stop.EvalStop.{EvalStop}
use Rattle.eval_expressions.specs.contract_semantics.Steps.{Machine, Step, Done, and_then}
use Rattle.eval_expressions.specs.contract_semantics.Statements.{Ending}
use Rattle.contract_eval.specs.declared.flow.Flow.{Flow}
use Rattle.contract_eval.specs.Flows.{Flows}

-- What follows a step that is done.
pub then_flows : {A : Type 0} (step : Step A) (x : A) (n : Machine) (next : A → Machine → Step Ending) (result : Result Flow EvalStop) (variables : List Variable) (k : Machine)
    → step ≡ Done x n → Flows (next x n) result variables k → Flows (and_then step next) result variables k
then_flows step x n next result variables k done flows = subst (λ step. Flows (and_then step next) result variables k) (sym done) flows
