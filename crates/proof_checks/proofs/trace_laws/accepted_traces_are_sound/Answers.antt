use Rattle.proof_checks.proofs.TraceSound.{trace_is_sound}
use Rattle.proof_checks.proofs.trace_laws.accepted_traces_are_sound.Goals as goal

pub returns : goal.returns
returns c = trace_is_sound
