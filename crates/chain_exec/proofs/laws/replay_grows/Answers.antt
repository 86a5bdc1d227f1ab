use Rattle.chain_exec.proofs.TheLaws.{replay_grows}
use Rattle.chain_exec.proofs.laws.replay_grows.Goals as goal

pub returns : goal.returns
returns c = replay_grows
