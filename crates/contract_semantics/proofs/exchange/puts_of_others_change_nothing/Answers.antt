use Rattle.contract_semantics.proofs.EndsWell.{puts_of_others_change_nothing}
use Rattle.contract_semantics.proofs.exchange.puts_of_others_change_nothing.Goals as goal

pub returns : goal.returns
returns c = puts_of_others_change_nothing
