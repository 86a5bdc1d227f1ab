use Rattle.replay_soundness.proofs.TypedChains.{replays_are_typed}
use Rattle.replay_soundness.proofs.typed_laws.replays_are_typed.Goals as goal

pub returns : goal.returns
returns c = replays_are_typed
