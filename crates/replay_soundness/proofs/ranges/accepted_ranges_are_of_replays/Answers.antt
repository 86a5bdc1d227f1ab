use Rattle.replay_soundness.proofs.Ranged.{accepted_ranges_are_of_replays}
use Rattle.replay_soundness.proofs.ranges.accepted_ranges_are_of_replays.Goals as goal

pub returns : goal.returns
returns c = accepted_ranges_are_of_replays
