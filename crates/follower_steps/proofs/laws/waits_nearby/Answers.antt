use Rattle.follower_steps.proofs.Nearby.{nearby}
use Rattle.follower_steps.proofs.laws.waits_nearby.Goals as goal

pub returns : goal.returns
returns c = nearby
