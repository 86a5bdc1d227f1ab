-- The lookups of statements and calls, defined beside their meaning: a part that doesn't run looks
-- nothing up.
use Rattle.std.specs.Prelude.{ℕ, zero, suc, if◌then◌else◌, List, [], Option, Some, None, Result, Ok, Err}
use Rattle.lc_base.specs.declared.answer.Query.{Query}
use Rattle.lc_base.specs.declared.value.Value.{Value}
use Rattle.lc_base.specs.declared.tx_status.TxStatus.{TxStatus}
use Rattle.contract_tree.specs.Tree.{Tree, Trees, FunctionTree, StatementTree, StatementTrees, no_statement, statements}
use Rattle.contract_tree.specs.Tree as tree
use Rattle.dep_capture.specs.Capture.{captured_none}
use Rattle.contract_semantics.specs.declared.charge.TheConstants.{CHARGE_NODE, CHARGE_PUT}
use Rattle.contract_semantics.specs.declared.variable.Variable.{Variable}
use Rattle.contract_semantics.specs.Scenes.{Scene}
use Rattle.contract_semantics.specs.Steps.{Machine, machine, Step}
use Rattle.contract_semantics.specs.Puts.{is_own, key_in}
use Rattle.contract_semantics.specs.Expressions.{value_of}
use Rattle.contract_semantics.specs.Statements.{Ending, Goes, Returns, Turn, Again, Ended, condition_step, loop_turn, parts_values, statement_run, statements_run}
use Rattle.contract_semantics.specs.Calls.{are_arguments, first_variables, function_of_name}
use Rattle.contract_semantics.specs.Lookups.{Lookups, no_lookups, one_met, then_lookups}
use Rattle.contract_semantics.specs.Lookups.{charged_lookups, value_lookups, values_lookups}

-- The lookups of what follows, unless the function has returned.
abbrev pub unless_returned_lookups : (List Variable → Machine → Lookups) → Ending → Machine → Lookups
unless_returned_lookups next (Goes variables) m = next variables m
unless_returned_lookups next Returns m = no_lookups

-- The lookups of a condition.
abbrev pub tested_lookups : Scene → Tree → List Variable → Machine → Lookups
tested_lookups s test variables m =
    charged_lookups CHARGE_NODE m (λ m. value_lookups s variables test m)

-- The lookups of a turn of a loop: those of its condition, then those of the body if the condition
-- holds.
abbrev pub turn_lookups : Scene → Tree → (List Variable → Machine → Lookups) → List Variable → Machine → Lookups
turn_lookups s test body variables m =
    then_lookups (tested_lookups s test variables m) (condition_step s test variables m)
    (λ goes_on m. if goes_on then body variables m else no_lookups)

-- The lookups of what follows a turn: those of the next turn, or none.
abbrev pub after_turn_lookups : (List Variable → Machine → Lookups) → Turn → Machine → Lookups
after_turn_lookups next (Again variables) m = next variables m
after_turn_lookups next (Ended ending) m = no_lookups

-- The lookups of at most `clock` turns of a loop.
unfoldable pub turns_lookups : ℕ → (List Variable → Machine → Step Turn) → (List Variable → Machine → Lookups) → List Variable → Machine → Lookups
turns_lookups zero turn lookups variables m = no_lookups
turns_lookups (suc more) turn lookups variables m =
    then_lookups (lookups variables m) (turn variables m)
    (after_turn_lookups (turns_lookups more turn lookups))

-- The lookups of the keys in a `from`, if there is one.
abbrev pub parts_lookups : Scene → List Variable → Option Trees → Machine → Lookups
parts_lookups s variables None m = no_lookups
parts_lookups s variables (Some parts) m = values_lookups s variables [] parts m

-- A put looks its key up if the key is the contract's own.
abbrev pub put_lookup : List ℕ → Result (List ℕ) TxStatus → Lookups
put_lookup contract (Ok key) = if is_own contract key then one_met key else no_lookups
put_lookup contract (Err status) = no_lookups

-- The lookups of a put: those of its key, its value, and the keys in its `from`, then its own key.
abbrev pub put_lookups : Scene → Tree → Tree → Option Trees → List Variable → Machine → Lookups
put_lookups s key value parts variables m =
    charged_lookups CHARGE_NODE m
    (λ m. then_lookups (value_lookups s variables key m) (value_of s variables key m)
    (λ key m. then_lookups (value_lookups s variables value m) (value_of s variables value m)
    (λ value m. then_lookups (parts_lookups s variables parts m) (parts_values s variables parts m)
    (λ parts m. charged_lookups CHARGE_PUT m (λ m. put_lookup s.site.contract (key_in key))))))

-- The lookups of a drop: those of its key and the keys in its `from`, then its own key.
abbrev pub remove_lookups : Scene → Tree → Option Trees → List Variable → Machine → Lookups
remove_lookups s key parts variables m =
    charged_lookups CHARGE_NODE m
    (λ m. then_lookups (value_lookups s variables key m) (value_of s variables key m)
    (λ key m. then_lookups (parts_lookups s variables parts m) (parts_values s variables parts m)
    (λ parts m. charged_lookups CHARGE_PUT m (λ m. put_lookup s.site.contract (key_in key)))))

abbrev mutual
  -- The lookups of a statement.
  pub statement_lookups : Scene → StatementTree → List Variable → Machine → Lookups
  statement_lookups s (tree.Let at name_at name value) variables m =
      charged_lookups CHARGE_NODE m (λ m. value_lookups s variables value m)
  statement_lookups s (tree.Assign at name value) variables m =
      charged_lookups CHARGE_NODE m (λ m. value_lookups s variables value m)
  statement_lookups s (tree.If at test first) variables m =
      then_lookups (tested_lookups s test variables m) (condition_step s test variables m)
      (λ chosen m. if chosen then statements_lookups s first variables m else no_lookups)
  statement_lookups s (tree.IfElse at test first second) variables m =
      then_lookups (tested_lookups s test variables m) (condition_step s test variables m)
      (λ chosen m. if chosen then statements_lookups s first variables m
      else statements_lookups s second variables m)
  statement_lookups s (tree.While at test body) variables m =
      turns_lookups m.left (loop_turn s test (statements_run s body))
      (turn_lookups s test (statements_lookups s body)) variables m
  statement_lookups s (tree.Put at key value parts) variables m =
      put_lookups s key value parts variables m
  statement_lookups s (tree.Remove at key parts) variables m =
      remove_lookups s key parts variables m
  statement_lookups s (tree.Fail at) variables m = no_lookups
  statement_lookups s (tree.Return at) variables m = no_lookups

  -- The lookups of statements, one after another.
  pub statements_lookups : Scene → StatementTrees → List Variable → Machine → Lookups
  statements_lookups s no_statement variables m = no_lookups
  statements_lookups s (statements x xs) variables m =
      then_lookups (statement_lookups s x variables m) (statement_run s x variables m)
      (unless_returned_lookups (statements_lookups s xs))

-- The lookups of a function, if it takes the arguments.
abbrev pub function_lookups : Scene → List Value → Option FunctionTree → Lookups
function_lookups s args None = no_lookups
function_lookups s args (Some function) =
    if are_arguments function.params args
    then statements_lookups s function.body (first_variables function.params args) (machine s.site.budget captured_none)
    else no_lookups

-- What a call of a contract with these functions looks up besides its reads.
unfoldable pub call_lookups : List FunctionTree → Scene → List Value → Lookups
call_lookups functions s args = function_lookups s args (function_of_name functions s.site.function)

-- The questions that a call asks about the rows of the blocks before.
abbrev pub questions_of : List FunctionTree → Scene → List Value → List Query
questions_of functions s args = (call_lookups functions s args).asked

-- The keys for which a call learns whether the block has written them.
abbrev pub keys_met : List FunctionTree → Scene → List Value → List (List ℕ)
keys_met functions s args = (call_lookups functions s args).met
