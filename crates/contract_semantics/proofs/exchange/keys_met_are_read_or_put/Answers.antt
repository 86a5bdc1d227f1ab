use Rattle.contract_semantics.proofs.EndsWell.{keys_met_are_read_or_put}
use Rattle.contract_semantics.proofs.exchange.keys_met_are_read_or_put.Goals as goal

pub returns : goal.returns
returns c = keys_met_are_read_or_put
