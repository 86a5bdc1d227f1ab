-- A statement ends by going on with new variables, by returning from the function, or by failing
-- with a status.
use Rattle.std.specs.Prelude.{ℕ, zero, suc, ◌==◌, Bool, if◌then◌else◌, List, [], ◌∷◌, ◌++◌, length, take, position, slice_set, Option, Some, None, Result, Ok, Err}
use Rattle.std.specs.Cmp.Lexicographic.{pointwise}
use Rattle.lc_base.specs.declared.value.Value.{Value}
use Rattle.lc_base.specs.declared.value.Value.TheVariants as values
use Rattle.lc_base.specs.declared.tx_status.TxStatus.{TxStatus}
use Rattle.lc_base.specs.declared.tx_status.TxStatus.TheVariants as statuses
use Rattle.contract_tree.specs.Tree.{Tree, Trees, StatementTree, StatementTrees, no_statement, statements}
use Rattle.contract_tree.specs.Tree as tree
use Rattle.dep_capture.specs.Captured.{Captured}
use Rattle.contract_semantics.specs.declared.charge.TheConstants.{CHARGE_NODE, CHARGE_PUT}
use Rattle.contract_semantics.specs.declared.variable.Variable.{Variable}
use Rattle.contract_semantics.specs.Operators.{holds}
use Rattle.contract_semantics.specs.Scenes.{Place, Scene}
use Rattle.contract_semantics.specs.Puts.{captured_by_put}
use Rattle.contract_semantics.specs.Expressions.{value_of, values_of}
use Rattle.contract_semantics.specs.Steps.{Machine, Step, Done, Failed, and_then, after_charge}

-- How a statement ends without failing: the next one runs, with these variables, or the function
-- has returned.
pub data Ending : Type 0 where
  Goes : List Variable → Ending
  Returns : Ending

-- Runs what follows, unless the function has returned.
abbrev pub unless_returned : (List Variable → Machine → Step Ending) → Ending → Machine → Step Ending
unless_returned next (Goes variables) m = next variables m
unless_returned next Returns m = Done Returns m

-- The names that a block declares end with it.
abbrev pub block_ended : List Variable → Ending → Machine → Step Ending
block_ended outer (Goes variables) m = Done (Goes (take (length outer) variables)) m
block_ended outer Returns m = Done Returns m

-- ---- variables

-- Declares a variable.
abbrev pub with_variable : List Variable → List ℕ → Value → List Variable
with_variable variables name value = variables ++ record { name = name; value = value } ∷ []

-- The index of the variable with this name.
abbrev pub variable_index : List Variable → List ℕ → Option ℕ
variable_index variables name =
    position (λ (variable : Variable). pointwise ◌==◌ variable.name name) variables

-- The variables with another value at an index.
abbrev pub value_replaced : Option ℕ → List Variable → List ℕ → Value → List Variable
value_replaced None variables name value = variables
value_replaced (Some i) variables name value =
    slice_set variables i (record { name = name; value = value })

-- The variables after an assignment.
abbrev pub with_assignment : List Variable → List ℕ → Value → List Variable
with_assignment variables name value =
    value_replaced (variable_index variables name) variables name value

-- ---- conditions and loops

-- The charge of a statement, and whether its condition holds.
abbrev pub condition_step : Scene → Tree → List Variable → Machine → Step Bool
condition_step s test variables m =
    after_charge CHARGE_NODE m
    (λ m. and_then (value_of s variables test m) (λ value m. Done (holds value) m))

-- How a turn of a loop ends: another turn follows, or the loop ends.
pub data Turn : Type 0 where
  Again : List Variable → Turn
  Ended : Ending → Turn

-- After the body of a loop another turn follows, unless the function has returned.
abbrev pub turn_again : Ending → Machine → Step Turn
turn_again (Goes variables) m = Done (Again variables) m
turn_again Returns m = Done (Ended Returns) m

-- A turn of a loop: its charge and its condition, then the body if the condition holds.
abbrev pub loop_turn : Scene → Tree → (List Variable → Machine → Step Ending) → List Variable → Machine → Step Turn
loop_turn s test body variables m =
    and_then (condition_step s test variables m)
    (λ goes_on m. if goes_on then and_then (and_then (body variables m) (block_ended variables)) turn_again
    else Done (Ended (Goes variables)) m)

-- What follows a turn: the next one, or the end of the loop.
abbrev pub after_turn : (List Variable → Machine → Step Ending) → Turn → Machine → Step Ending
after_turn next (Again variables) m = next variables m
after_turn next (Ended ending) m = Done ending m

-- At most `clock` turns of a loop. Each turn takes at least one charge, so a clock of what is left
-- of the budget never ends a loop before the budget does.
unfoldable pub turns : ℕ → (List Variable → Machine → Step Turn) → List Variable → Machine → Step Ending
turns zero turn variables m = Failed statuses.OutOfSteps m
turns (suc more) turn variables m = and_then (turn variables m) (after_turn (turns more turn))

-- ---- put and drop

-- The values of the keys in a `from`, if there is one.
abbrev pub parts_values : Scene → List Variable → Option Trees → Machine → Step (Option (List Value))
parts_values s variables None m = Done None m
parts_values s variables (Some parts) m =
    and_then (values_of s variables [] parts m) (λ values m. Done (Some values) m)

-- The end of a put or of a drop.
abbrev pub put_done : List Variable → Result Captured TxStatus → Machine → Step Ending
put_done variables (Ok c) m = Done (Goes variables) (record m { capture = c })
put_done variables (Err status) m = Failed status m

-- A put: its key, its value, and the keys in its `from` are evaluated, then it is charged and done.
abbrev pub put_run : Scene → Tree → Tree → Option Trees → List Variable → Machine → Step Ending
put_run s key value parts variables m =
    after_charge CHARGE_NODE m
    (λ m. and_then (value_of s variables key m)
    (λ key m. and_then (value_of s variables value m)
    (λ value m. and_then (parts_values s variables parts m)
    (λ parts m. after_charge CHARGE_PUT m
    (λ m. put_done variables (captured_by_put s.site.contract s.place key value parts m.capture) m)))))

-- The end of a put, once its parts have been evaluated: its further charge, and what it does.
abbrev pub put_end : List ℕ → Place → Value → Value → Option (List Value) → List Variable → Machine → Step Ending
put_end contract place key value parts variables m =
    after_charge CHARGE_PUT m
    (λ m. put_done variables (captured_by_put contract place key value parts m.capture) m)

-- A put, once its key and its value have been evaluated.
abbrev pub put_of_values : Scene → Value → Value → Option Trees → List Variable → Machine → Step Ending
put_of_values s key value parts variables m =
    and_then (parts_values s variables parts m)
    (λ parts m. put_end s.site.contract s.place key value parts variables m)

-- A put, once its key has been evaluated.
abbrev pub put_of_key : Scene → Value → Tree → Option Trees → List Variable → Machine → Step Ending
put_of_key s key value parts variables m =
    and_then (value_of s variables value m)
    (λ value m. put_of_values s key value parts variables m)

-- A drop: its key and the keys in its `from` are evaluated, then it is charged, and puts the value
-- that is gone.
abbrev pub remove_run : Scene → Tree → Option Trees → List Variable → Machine → Step Ending
remove_run s key parts variables m =
    after_charge CHARGE_NODE m
    (λ m. and_then (value_of s variables key m)
    (λ key m. put_of_values s key values.Gone parts variables m))

-- ---- statements

-- A declaration.
abbrev pub let_run : Scene → List ℕ → Tree → List Variable → Machine → Step Ending
let_run s name value variables m =
    after_charge CHARGE_NODE m
    (λ m. and_then (value_of s variables value m)
    (λ value m. Done (Goes (with_variable variables name value)) m))

-- An assignment.
abbrev pub assign_run : Scene → List ℕ → Tree → List Variable → Machine → Step Ending
assign_run s name value variables m =
    after_charge CHARGE_NODE m
    (λ m. and_then (value_of s variables value m)
    (λ value m. Done (Goes (with_assignment variables name value)) m))

abbrev mutual
  -- A statement.
  pub statement_run : Scene → StatementTree → List Variable → Machine → Step Ending
  statement_run s (tree.Let at name_at name value) variables m = let_run s name value variables m
  statement_run s (tree.Assign at name value) variables m = assign_run s name value variables m
  statement_run s (tree.If at test first) variables m =
      and_then (condition_step s test variables m)
      (λ chosen m. if chosen then and_then (statements_run s first variables m) (block_ended variables)
      else Done (Goes variables) m)
  statement_run s (tree.IfElse at test first second) variables m =
      and_then (condition_step s test variables m)
      (λ chosen m. if chosen then and_then (statements_run s first variables m) (block_ended variables)
      else and_then (statements_run s second variables m) (block_ended variables))
  statement_run s (tree.While at test body) variables m =
      turns m.left (loop_turn s test (statements_run s body)) variables m
  statement_run s (tree.Put at key value parts) variables m = put_run s key value parts variables m
  statement_run s (tree.Remove at key parts) variables m = remove_run s key parts variables m
  statement_run s (tree.Fail at) variables m =
      after_charge CHARGE_NODE m (λ m. Failed statuses.Failed m)
  statement_run s (tree.Return at) variables m = after_charge CHARGE_NODE m (λ m. Done Returns m)

  -- Statements, one after another.
  pub statements_run : Scene → StatementTrees → List Variable → Machine → Step Ending
  statements_run s no_statement variables m = Done (Goes variables) m
  statements_run s (statements x xs) variables m =
      and_then (statement_run s x variables m) (unless_returned (statements_run s xs))

-- A block, whose names end with it.
abbrev pub block_run : Scene → StatementTrees → List Variable → Machine → Step Ending
block_run s body variables m = and_then (statements_run s body variables m) (block_ended variables)

-- The chosen block of an `if`; other statements have none.
abbrev pub branch_run : Scene → StatementTree → Bool → List Variable → Machine → Step Ending
branch_run s (tree.If at test first) chosen variables m =
    if chosen then block_run s first variables m else Done (Goes variables) m
branch_run s (tree.IfElse at test first second) chosen variables m =
    if chosen then block_run s first variables m else block_run s second variables m
branch_run s _ chosen variables m = Done (Goes variables) m

-- At most `clock` turns of a loop over a body.
abbrev pub loop_run : Scene → Tree → StatementTrees → ℕ → List Variable → Machine → Step Ending
loop_run s test body clock variables m =
    turns clock (loop_turn s test (statements_run s body)) variables m
