use Rattle.cli_append.proofs.Leader.{follows_leader}
use Rattle.cli_append.proofs.laws.follows_its_leader.Goals as goal

pub returns : goal.returns
returns c = follows_leader
