use Rattle.replay_soundness.proofs.Sound.{chains_with_one_root_answer_alike}
use Rattle.replay_soundness.proofs.soundness.chains_with_one_root_answer_alike.Goals as goal

pub returns : goal.returns
returns c = chains_with_one_root_answer_alike
