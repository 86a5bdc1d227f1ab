use Rattle.chain_exec.proofs.TheLaws.{failures_leave_nothing}
use Rattle.chain_exec.proofs.laws.failures_leave_nothing.Goals as goal

pub returns : goal.returns
returns c = failures_leave_nothing
