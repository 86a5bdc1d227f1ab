-- How the results of a loop's turns in the program are compared with the definitions.
use Rattle.std.specs.Prelude.{◌≡◌, List, Option, Some, None, Result, Ok, Err}
use Rattle.eval_expressions.specs.contract_semantics.declared.variable.Variable.{Variable}
use Rattle.eval_expressions.specs.contract_semantics.declared.stop.EvalStop.{EvalStop}
use Rattle.eval_expressions.specs.contract_semantics.declared.stop.EvalStop.TheVariants as stops
use Rattle.eval_expressions.specs.contract_semantics.Steps.{Machine, Step, Done, Failed}
use Rattle.eval_expressions.specs.contract_semantics.Statements.{Goes, Returns, Turn, Again, Ended}
use Rattle.contract_eval.specs.declared.flow.Flow.{Flow}
use Rattle.contract_eval.specs.declared.flow.Flow.TheVariants as flows

-- The result of a turn of a loop, and the variables and the machine after it, are those of the
-- step, unless memory ran out or the host failed. `None` means that another turn follows.
abbrev pub Turns : Step Turn → Result (Option Flow) EvalStop → List Variable → Machine → Type 0
Turns step (Ok None) variables m = step ≡ Done (Again variables) m
Turns step (Ok (Some flows.Goes)) variables m = step ≡ Done (Ended (Goes variables)) m
Turns step (Ok (Some flows.Returns)) variables m = step ≡ Done (Ended Returns) m
Turns step (Err (stops.Status status)) variables m = step ≡ Failed status m
Turns step (Err stops.Fault) variables m = Unit {0}
Turns step (Err stops.Memory) variables m = Unit {0}
