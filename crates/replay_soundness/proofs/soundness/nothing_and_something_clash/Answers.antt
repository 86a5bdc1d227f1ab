use Rattle.replay_soundness.proofs.Sound.{nothing_and_something_clash}
use Rattle.replay_soundness.proofs.soundness.nothing_and_something_clash.Goals as goal

pub returns : goal.returns
returns c = nothing_and_something_clash
