-- A question leaves the host as it was, whatever it answers.
use Rattle.std.specs.Prelude.{List, Result, IfSome, IsErrOf}
use Rattle.lc_base.specs.Faults.{HasCause}
use Rattle.lc_base.specs.declared.host.Host.{Ghosts as Host}
use Rattle.lc_base.specs.declared.row.Row.{Row}
use Rattle.lc_base.specs.declared.tx_status.TxStatus.{TxStatus}
use Rattle.contract_semantics.specs.declared.stop.EvalStop.{EvalStop}
use Rattle.contract_semantics.specs.declared.stop.EvalStop.TheVariants as stops
use Rattle.contract_semantics.specs.Answers.{IsResultOf}

-- What a question to a host leaves. The host is the same as before. If its rows are known, the
-- answer is this result of them, unless memory ran out or the host failed. A fault is returned
-- exactly if the host failed.
pub record Asks {H A B : Type 0} (host : Host H) (old new : H) (view : A → B) (wanted : List Row → Result B TxStatus) (result : Result A EvalStop) : Type 0 where
  pub same : host.same old new
  pub answer : IfSome (host.rows old) (λ rows. IsResultOf view (wanted rows) result)
  pub cause : HasCause (host.host_faults old) (host.host_faults new) (IsErrOf result stops.Fault)
