use Rattle.replay_soundness.proofs.LightSound.{light_answers_are_of_replays}
use Rattle.replay_soundness.proofs.light.light_answers_are_of_replays.Goals as goal

pub returns : goal.returns
returns c = light_answers_are_of_replays
