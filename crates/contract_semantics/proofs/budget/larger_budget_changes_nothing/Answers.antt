use Rattle.contract_semantics.proofs.TheLaws.{larger_budget_changes_nothing}
use Rattle.contract_semantics.proofs.budget.larger_budget_changes_nothing.Goals as goal

pub returns : goal.returns
returns c = larger_budget_changes_nothing
