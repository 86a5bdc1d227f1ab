use Rattle.chain_exec.proofs.Costs.{costs_are_within_budgets, next_blocks_are_within_budget}
use Rattle.chain_exec.proofs.laws.costs_are_within_budgets.Goals as goal

pub returns-clause-each : goal.returns-clause-each
returns-clause-each c = costs_are_within_budgets

pub returns-clause-block : goal.returns-clause-block
returns-clause-block c = next_blocks_are_within_budget
