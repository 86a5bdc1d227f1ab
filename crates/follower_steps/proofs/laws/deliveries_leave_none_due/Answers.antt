use Rattle.follower_steps.proofs.Follows.{leave_none}
use Rattle.follower_steps.proofs.laws.deliveries_leave_none_due.Goals as goal

pub returns : goal.returns
returns c = leave_none
