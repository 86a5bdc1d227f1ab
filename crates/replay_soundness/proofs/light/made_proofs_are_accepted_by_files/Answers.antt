use Rattle.replay_soundness.proofs.Made.{made_proofs_are_accepted_by_files}
use Rattle.replay_soundness.proofs.light.made_proofs_are_accepted_by_files.Goals as goal

pub returns : goal.returns
returns c = made_proofs_are_accepted_by_files
