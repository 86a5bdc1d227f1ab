use Rattle.cli_promises.proofs.Runs.{begun_prefix}
use Rattle.cli_promises.proofs.laws.begun_is_prefix.Goals as goal

pub returns : goal.returns
returns c = begun_prefix
