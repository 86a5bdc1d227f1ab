use Rattle.replay_soundness.proofs.TypedChains.{chains_of_values_are_typed}
use Rattle.replay_soundness.proofs.typed_laws.chains_of_values_are_typed.Goals as goal

pub returns : goal.returns
returns c = chains_of_values_are_typed
