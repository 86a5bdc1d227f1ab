use Rattle.contract_semantics.proofs.TheLaws.{longer_clock_changes_nothing}
use Rattle.contract_semantics.proofs.budget.longer_clock_changes_nothing.Goals as goal

pub returns : goal.returns
returns c = longer_clock_changes_nothing
