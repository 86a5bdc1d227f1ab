use Rattle.std.proofs.Common.{refl}
use Rattle.follower_steps.proofs.laws.crashes_acknowledge_the_told.Goals as goal

pub returns : goal.returns
returns c place state index bytes before is_stored = refl
