use Rattle.replay_soundness.proofs.False.{compilers_matter}
use Rattle.replay_soundness.proofs.refuted.compilers_matter.Goals as goal

pub returns : goal.returns
returns c = compilers_matter
