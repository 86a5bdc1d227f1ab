use Rattle.replay_soundness.proofs.Sound.{accepted_proofs_answer_as_logs}
use Rattle.replay_soundness.proofs.soundness.accepted_proofs_answer_as_logs.Goals as goal

pub returns : goal.returns
returns c = accepted_proofs_answer_as_logs
