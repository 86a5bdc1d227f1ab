use Rattle.replay_soundness.proofs.False.{limits_matter}
use Rattle.replay_soundness.proofs.refuted.limits_matter.Goals as goal

pub returns : goal.returns
returns c = limits_matter
