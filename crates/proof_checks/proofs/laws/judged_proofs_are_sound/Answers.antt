use Rattle.proof_checks.proofs.Sound.{judged_is_sound}
use Rattle.proof_checks.proofs.laws.judged_proofs_are_sound.Goals as goal

pub returns : goal.returns
returns c = judged_is_sound
