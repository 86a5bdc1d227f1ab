use Rattle.replay_soundness.proofs.False.{places_matter}
use Rattle.replay_soundness.proofs.refuted.places_matter.Goals as goal

pub returns : goal.returns
returns c = places_matter
