use Rattle.std.proofs.Common.{◌≡◌, map, drop}
use Rattle.contract_tree.specs.Tree.{statement_of, statement_list}
use Rattle.contract_check.specs.Faults.{names_after_statements}
use Rattle.contract_check.proofs.statement.+statement.Given as goal

abbrev pub invariant-statements-loop-x : goal.invariant-statements-loop-x
invariant-statements-loop-x l = names_after_statements l.scope (statement_list (map statement_of (drop l.x-index l.body))) ≡ names_after_statements l.initial.scope (statement_list (map statement_of l.body))
