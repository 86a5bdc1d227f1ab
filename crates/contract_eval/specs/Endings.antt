-- How the result of a function's body in the program becomes the status of a call.
use Rattle.std.specs.Prelude.{◌≡◌, Result, Ok, Err}
use Rattle.lc_base.specs.declared.host_error.HostError.{HostError}
use Rattle.lc_base.specs.declared.host_error.HostError.TheVariants as hosts
use Rattle.lc_base.specs.declared.tx_status.TxStatus.{TxStatus}
use Rattle.lc_base.specs.declared.tx_status.TxStatus.TheVariants as statuses
use Rattle.eval_expressions.specs.contract_semantics.declared.stop.EvalStop.{EvalStop}
use Rattle.eval_expressions.specs.contract_semantics.declared.stop.EvalStop.TheVariants as stops
use Rattle.contract_eval.specs.declared.flow.Flow.{Flow}

-- The status of a function whose body ended like this, or why it has none.
abbrev pub IsStatusOf : Result Flow EvalStop → Result TxStatus HostError → Type 0
IsStatusOf (Ok flow) answer = answer ≡ Ok statuses.Ok
IsStatusOf (Err (stops.Status status)) answer = answer ≡ Ok status
IsStatusOf (Err stops.Fault) answer = answer ≡ Err hosts.Fault
IsStatusOf (Err stops.Memory) answer = answer ≡ Err hosts.Memory
