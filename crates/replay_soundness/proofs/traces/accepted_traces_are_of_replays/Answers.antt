use Rattle.replay_soundness.proofs.Traced.{accepted_traces_are_of_replays}
use Rattle.replay_soundness.proofs.traces.accepted_traces_are_of_replays.Goals as goal

pub returns : goal.returns
returns c = accepted_traces_are_of_replays
