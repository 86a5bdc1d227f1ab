use Rattle.contract_semantics.proofs.EndsWell.{puts_are_own_and_unwritten}
use Rattle.contract_semantics.proofs.versions.puts_are_own_and_unwritten.Goals as goal

pub returns : goal.returns
returns c = puts_are_own_and_unwritten
