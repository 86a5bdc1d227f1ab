-- Every statement keeps the laws, by the cases of the tree.
use Rattle.std.proofs.Common.{Bool, List, [], length, take, Option, Some, None, refl, if◌then◌else◌}
use Rattle.lc_base.specs.declared.value.Value.TheVariants as values
use Rattle.lc_base.specs.declared.tx_status.TxStatus.TheVariants as statuses
use Rattle.contract_tree.specs.Tree.{Tree, Trees, StatementTree, StatementTrees, no_statement, statements}
use Rattle.contract_tree.specs.Tree as tree
use Rattle.contract_semantics.specs.declared.charge.TheConstants.{CHARGE_NODE, CHARGE_PUT}
use Rattle.contract_semantics.specs.declared.variable.Variable.{Variable}
use Rattle.contract_semantics.specs.Operators.{holds}
use Rattle.contract_semantics.specs.Scenes.{Scene}
use Rattle.contract_semantics.specs.Puts.{key_in}
use Rattle.contract_semantics.specs.Steps.{Machine, Step, Done, and_then}
use Rattle.contract_semantics.specs.Statements.{Ending, Goes, Returns, Again, Ended, unless_returned, block_ended, with_variable, with_assignment, condition_step, turn_again, loop_turn, parts_values, put_run, remove_run, statement_run, statements_run}
use Rattle.contract_semantics.specs.Lookups.{Lookups, no_lookups}
use Rattle.contract_semantics.specs.CallLookups.{unless_returned_lookups, tested_lookups}
use Rattle.contract_semantics.specs.CallLookups.{turn_lookups, parts_lookups, put_lookups}
use Rattle.contract_semantics.specs.CallLookups.{remove_lookups, statement_lookups}
use Rattle.contract_semantics.specs.CallLookups.{statements_lookups}
use Rattle.contract_semantics.proofs.Tame.{Tame, tame_done, tame_failed, tame_charged}
use Rattle.contract_semantics.proofs.Tame.{tame_charged_quiet, tame_then, tame_then_quiet, tame_if}
use Rattle.contract_semantics.proofs.Failures.{key_in_fails}
use Rattle.contract_semantics.proofs.Expressions.{tame_value, tame_values}
use Rattle.contract_semantics.proofs.Loops.{tame_loop}
use Rattle.contract_semantics.proofs.Puts.{tame_putting}

tame_unless_returned : (next : Scene → List Variable → Machine → Step Ending) (look : Scene → List Variable → Machine → Lookups) → ((variables : List Variable) → Tame (λ s m. next s variables m) (λ s m. look s variables m)) → (ending : Ending)
    → Tame (λ s m. unless_returned (next s) ending m) (λ s m. unless_returned_lookups (look s) ending m)
tame_unless_returned next look h (Goes variables) = h variables
tame_unless_returned next look h Returns = tame_done Returns

tame_block_ended : (outer : List Variable) (ending : Ending)
    → Tame (λ s m. block_ended outer ending m) (λ s m. no_lookups)
tame_block_ended outer (Goes variables) = tame_done (Goes (take (length outer) variables))
tame_block_ended outer Returns = tame_done Returns

tame_turn_again : (ending : Ending) → Tame (λ s m. turn_again ending m) (λ s m. no_lookups)
tame_turn_again (Goes variables) = tame_done (Again variables)
tame_turn_again Returns = tame_done (Ended Returns)

pub tame_condition : (test : Tree) (variables : List Variable)
    → Tame (λ s m. condition_step s test variables m) (λ s m. tested_lookups s test variables m)
tame_condition test variables = tame_charged CHARGE_NODE (tame_then_quiet (tame_value variables test) (λ value. tame_done (holds value)))

-- The rest of a turn, once its condition is known.
pub tame_after_test : (body : Scene → List Variable → Machine → Step Ending) (look : Scene → List Variable → Machine → Lookups) → ((variables : List Variable) → Tame (λ s m. body s variables m) (λ s m. look s variables m)) → (variables : List Variable) (goes_on : Bool)
    → Tame (λ s m. if goes_on then and_then (and_then (body s variables m) (block_ended variables)) turn_again else Done (Ended (Goes variables)) m) (λ s m. if goes_on then look s variables m else no_lookups)
tame_after_test body look h variables goes_on = tame_if goes_on (tame_then_quiet (tame_then_quiet (h variables) (tame_block_ended variables)) tame_turn_again) (tame_done (Ended (Goes variables)))

tame_turn : (test : Tree) (body : Scene → List Variable → Machine → Step Ending) (look : Scene → List Variable → Machine → Lookups) → ((variables : List Variable) → Tame (λ s m. body s variables m) (λ s m. look s variables m)) → (variables : List Variable)
    → Tame (λ s m. loop_turn s test (body s) variables m) (λ s m. turn_lookups s test (look s) variables m)
tame_turn test body look h variables =
    tame_then (tame_condition test variables) (tame_after_test body look h variables)

tame_parts : (variables : List Variable) (parts : Option Trees)
    → Tame (λ s m. parts_values s variables parts m) (λ s m. parts_lookups s variables parts m)
tame_parts variables None = tame_done None
tame_parts variables (Some parts) =
    tame_then_quiet (tame_values variables [] parts) (λ values. tame_done (Some values))

tame_put : (key value : Tree) (parts : Option Trees) (variables : List Variable) → Tame (λ s m. put_run s key value parts variables m) (λ s m. put_lookups s key value parts variables m)
tame_put key value parts variables = tame_charged CHARGE_NODE (tame_then (tame_value variables key)
    (λ key. tame_then (tame_value variables value)
    (λ value. tame_then (tame_parts variables parts)
    (λ parts. tame_charged CHARGE_PUT (tame_putting variables (key_in key) (key_in_fails key) value parts)))))

tame_remove : (key : Tree) (parts : Option Trees) (variables : List Variable) → Tame (λ s m. remove_run s key parts variables m) (λ s m. remove_lookups s key parts variables m)
tame_remove key parts variables = tame_charged CHARGE_NODE (tame_then (tame_value variables key)
    (λ key. tame_then (tame_parts variables parts)
    (λ parts. tame_charged CHARGE_PUT (tame_putting variables (key_in key) (key_in_fails key) values.Gone parts))))

mutual
  pub tame_statement : (x : StatementTree) (variables : List Variable)
      → Tame (λ s m. statement_run s x variables m) (λ s m. statement_lookups s x variables m)
  tame_statement (tree.Let at name_at name value) variables = tame_charged CHARGE_NODE (tame_then_quiet (tame_value variables value) (λ value. tame_done (Goes (with_variable variables name value))))
  tame_statement (tree.Assign at name value) variables = tame_charged CHARGE_NODE (tame_then_quiet (tame_value variables value) (λ value. tame_done (Goes (with_assignment variables name value))))
  tame_statement (tree.If at test first) variables = tame_then (tame_condition test variables)
      (λ chosen. tame_if chosen (tame_then_quiet (tame_statements first variables) (tame_block_ended variables)) (tame_done (Goes variables)))
  tame_statement (tree.IfElse at test first second) variables =
      tame_then (tame_condition test variables)
      (λ chosen. tame_if chosen (tame_then_quiet (tame_statements first variables) (tame_block_ended variables)) (tame_then_quiet (tame_statements second variables) (tame_block_ended variables)))
  tame_statement (tree.While at test body) variables = tame_loop (λ s. loop_turn s test (statements_run s body)) (λ s. turn_lookups s test (statements_lookups s body))
      (tame_turn test (λ s. statements_run s body) (λ s. statements_lookups s body) (tame_statements body)) variables
  tame_statement (tree.Put at key value parts) variables = tame_put key value parts variables
  tame_statement (tree.Remove at key parts) variables = tame_remove key parts variables
  tame_statement (tree.Fail at) variables =
      tame_charged_quiet CHARGE_NODE (tame_failed Ending statuses.Failed refl)
  tame_statement (tree.Return at) variables = tame_charged_quiet CHARGE_NODE (tame_done Returns)

  pub tame_statements : (xs : StatementTrees) (variables : List Variable)
      → Tame (λ s m. statements_run s xs variables m) (λ s m. statements_lookups s xs variables m)
  tame_statements no_statement variables = tame_done (Goes variables)
  tame_statements (statements x xs) variables = tame_then (tame_statement x variables) (tame_unless_returned (λ s. statements_run s xs) (λ s. statements_lookups s xs) (tame_statements xs))
