use Rattle.replay_soundness.proofs.Compiling.{compilers_give_values}
use Rattle.replay_soundness.proofs.typed_laws.compilers_give_values.Goals as goal

pub returns : goal.returns
returns c = compilers_give_values
