use Rattle.follower_steps.proofs.Follows.{follows}
use Rattle.follower_steps.proofs.laws.follows_the_leader.Goals as goal

pub returns : goal.returns
returns c = follows
