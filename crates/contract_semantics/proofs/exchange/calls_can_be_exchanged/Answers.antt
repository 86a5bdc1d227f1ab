use Rattle.contract_semantics.proofs.EndsWell.{calls_can_be_exchanged}
use Rattle.contract_semantics.proofs.exchange.calls_can_be_exchanged.Goals as goal

pub returns : goal.returns
returns c = calls_can_be_exchanged
