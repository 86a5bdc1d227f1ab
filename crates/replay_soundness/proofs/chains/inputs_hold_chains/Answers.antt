use Rattle.replay_soundness.proofs.Inputs.{inputs_hold_chains}
use Rattle.replay_soundness.proofs.chains.inputs_hold_chains.Goals as goal

pub returns : goal.returns
returns c = inputs_hold_chains
