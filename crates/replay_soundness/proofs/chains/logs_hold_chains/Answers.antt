use Rattle.replay_soundness.proofs.Logs.{logs_hold_chains}
use Rattle.replay_soundness.proofs.chains.logs_hold_chains.Goals as goal

pub returns : goal.returns
returns c = logs_hold_chains
