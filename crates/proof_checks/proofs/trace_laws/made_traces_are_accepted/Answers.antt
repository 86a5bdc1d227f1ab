use Rattle.proof_checks.proofs.TraceMade.{made_trace_is_accepted}
use Rattle.proof_checks.proofs.trace_laws.made_traces_are_accepted.Goals as goal

pub returns : goal.returns
returns c = made_trace_is_accepted
