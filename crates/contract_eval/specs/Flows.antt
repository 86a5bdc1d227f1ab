-- How the results of the program's statements are compared with the definitions.
use Rattle.std.specs.Prelude.{◌≡◌, List, Result, Ok, Err}
use Rattle.eval_expressions.specs.contract_semantics.declared.variable.Variable.{Variable}
use Rattle.eval_expressions.specs.contract_semantics.declared.stop.EvalStop.{EvalStop}
use Rattle.eval_expressions.specs.contract_semantics.declared.stop.EvalStop.TheVariants as stops
use Rattle.eval_expressions.specs.contract_semantics.Steps.{Machine, Step, Done, Failed}
use Rattle.eval_expressions.specs.contract_semantics.Statements.{Ending, Goes, Returns}
use Rattle.contract_eval.specs.declared.flow.Flow.{Flow}
use Rattle.contract_eval.specs.declared.flow.Flow.TheVariants as flows

-- The result, and the variables and the machine after it, are those of the step, unless memory ran
-- out or the host failed.
abbrev pub Flows : Step Ending → Result Flow EvalStop → List Variable → Machine → Type 0
Flows step (Ok flows.Goes) variables m = step ≡ Done (Goes variables) m
Flows step (Ok flows.Returns) variables m = step ≡ Done Returns m
Flows step (Err (stops.Status status)) variables m = step ≡ Failed status m
Flows step (Err stops.Fault) variables m = Unit {0}
Flows step (Err stops.Memory) variables m = Unit {0}
