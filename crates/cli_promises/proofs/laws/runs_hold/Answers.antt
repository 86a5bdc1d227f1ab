use Rattle.cli_promises.proofs.Runs.{hold}
use Rattle.cli_promises.proofs.laws.runs_hold.Goals as goal

pub returns : goal.returns
returns c = hold
