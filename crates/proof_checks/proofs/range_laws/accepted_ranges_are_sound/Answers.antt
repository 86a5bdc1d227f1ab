use Rattle.proof_checks.proofs.RangeSound.{range_is_sound}
use Rattle.proof_checks.proofs.range_laws.accepted_ranges_are_sound.Goals as goal

pub returns : goal.returns
returns c = range_is_sound
