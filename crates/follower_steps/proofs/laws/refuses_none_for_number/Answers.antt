use Rattle.follower_steps.proofs.Causes.{none_for_number}
use Rattle.follower_steps.proofs.laws.refuses_none_for_number.Goals as goal

pub returns : goal.returns
returns c = none_for_number
