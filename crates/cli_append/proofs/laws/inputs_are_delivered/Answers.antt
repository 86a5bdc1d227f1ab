use Rattle.cli_append.proofs.Delivered.{inputs_delivered}
use Rattle.cli_append.proofs.laws.inputs_are_delivered.Goals as goal

pub returns : goal.returns
returns c = inputs_delivered
