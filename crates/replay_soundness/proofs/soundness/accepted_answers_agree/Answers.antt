use Rattle.replay_soundness.proofs.Sound.{accepted_answers_agree}
use Rattle.replay_soundness.proofs.soundness.accepted_answers_agree.Goals as goal

pub returns : goal.returns
returns c = accepted_answers_agree
