use Rattle.contract_semantics.proofs.TheLaws.{nothing_is_paid_back}
use Rattle.contract_semantics.proofs.budget.nothing_is_paid_back.Goals as goal

pub returns : goal.returns
returns c = nothing_is_paid_back
