use Rattle.contract_semantics.proofs.TheLaws.{cost_and_left_are_the_budget}
use Rattle.contract_semantics.proofs.budget.cost_and_left_are_the_budget.Goals as goal

pub returns : goal.returns
returns c = cost_and_left_are_the_budget
