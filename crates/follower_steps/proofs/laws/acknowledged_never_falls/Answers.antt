use Rattle.follower_steps.proofs.Follows.{never_falls}
use Rattle.follower_steps.proofs.laws.acknowledged_never_falls.Goals as goal

pub returns : goal.returns
returns c = never_falls
