use Rattle.proof_checks.proofs.TraceMadeSpelled.{made_trace_is_proof}
use Rattle.proof_checks.proofs.trace_laws.made_traces_are_proofs.Goals as goal

pub returns : goal.returns
returns c = made_trace_is_proof
