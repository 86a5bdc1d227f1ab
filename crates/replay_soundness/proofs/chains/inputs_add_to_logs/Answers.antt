use Rattle.replay_soundness.proofs.Inputs.{inputs_add_to_logs}
use Rattle.replay_soundness.proofs.chains.inputs_add_to_logs.Goals as goal

pub returns : goal.returns
returns c = inputs_add_to_logs
