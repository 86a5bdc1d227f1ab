use Rattle.follower_steps.proofs.Crashes.{is_emptied}
use Rattle.follower_steps.proofs.laws.crashes_keep_the_held.Goals as goal

pub returns : goal.returns
returns c = is_emptied
