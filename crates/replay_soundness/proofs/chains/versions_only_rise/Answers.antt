use Rattle.replay_soundness.proofs.Rising.{versions_only_rise}
use Rattle.replay_soundness.proofs.chains.versions_only_rise.Goals as goal

pub returns : goal.returns
returns c = versions_only_rise
