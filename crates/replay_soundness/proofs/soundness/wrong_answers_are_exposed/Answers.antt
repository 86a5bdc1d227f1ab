use Rattle.replay_soundness.proofs.Sound.{wrong_answers_are_exposed}
use Rattle.replay_soundness.proofs.soundness.wrong_answers_are_exposed.Goals as goal

pub returns : goal.returns
returns c = wrong_answers_are_exposed
