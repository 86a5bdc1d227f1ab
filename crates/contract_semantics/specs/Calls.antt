-- A call either is refused, and then costs nothing, or runs a function's body within the budget.
use Rattle.std.specs.Prelude.{ℕ, ◌-◌, ◌==◌, ◌&&◌, Bool, true, false, if◌then◌else◌, List, [], ◌∷◌, find, Option, Some, None}
use Rattle.std.specs.Cmp.Lexicographic.{pointwise}
use Rattle.lc_base.specs.declared.row.Row.{Row}
use Rattle.lc_base.specs.declared.value.Value.{Value}
use Rattle.lc_base.specs.declared.value.Value.TheVariants as values
use Rattle.lc_base.specs.declared.tx_status.TxStatus.{TxStatus}
use Rattle.lc_base.specs.declared.tx_status.TxStatus.TheVariants as statuses
use Rattle.contract_tree.specs.declared.tree.Param.{Param}
use Rattle.contract_tree.specs.declared.tree.ValueKind.{ValueKind}
use Rattle.contract_tree.specs.declared.tree.ValueKind.TheVariants.{Int, Text}
use Rattle.contract_tree.specs.Tree.{FunctionTree}
use Rattle.dep_capture.specs.Captured.{Captured}
use Rattle.dep_capture.specs.Capture.{captured_none, rows_of_puts}
use Rattle.contract_semantics.specs.declared.site.Outcome.{Outcome}
use Rattle.contract_semantics.specs.declared.variable.Variable.{Variable}
use Rattle.contract_semantics.specs.Scenes.{Scene}
use Rattle.contract_semantics.specs.Steps.{machine, Step, Done, Failed}
use Rattle.contract_semantics.specs.Statements.{Ending, statements_run}

-- Whether a value is of a kind.
abbrev pub is_of_kind : ValueKind → Value → Bool
is_of_kind Int (values.Int z) = true
is_of_kind Text (values.Text text) = true
is_of_kind kind value = false

-- Whether an argument is of the kind of its parameter.
abbrev pub is_of_its_kind : Param × Value → Bool
is_of_its_kind pair = is_of_kind pair.0.kind pair.1

-- Whether a function takes these arguments: one for each parameter, of that parameter's kind.
abbrev pub are_arguments : List Param → List Value → Bool
are_arguments [] [] = true
are_arguments [] (arg ∷ args) = false
are_arguments (param ∷ params) [] = false
are_arguments (param ∷ params) (arg ∷ args) =
    is_of_its_kind (param, arg) && are_arguments params args

-- The variables that a function's body begins with: its parameters, with these values.
abbrev pub first_variables : List Param → List Value → List Variable
first_variables [] args = []
first_variables (param ∷ params) [] = []
first_variables (param ∷ params) (arg ∷ args) =
    record { name = param.name; value = arg } ∷ first_variables params args

-- The function with this name.
abbrev pub function_of_name : List FunctionTree → List ℕ → Option FunctionTree
function_of_name functions name =
    find (λ (function : FunctionTree). pointwise ◌==◌ function.name name) functions

-- How a call ends, what it costs, and what it has read and put.
pub record CallResult : Type 0 where
  pub outcome : Outcome
  pub capture : Captured

-- A call that is refused before it begins costs nothing.
abbrev pub refused_call : TxStatus → CallResult
refused_call status =
    record { outcome = record { status = status; cost = 0 }; capture = captured_none }

-- The result of a function's body: the cost is what was taken from the budget.
abbrev pub call_ended : ℕ → Step Ending → CallResult
call_ended budget (Done ending m) =
    record { outcome = record { status = statuses.Ok; cost = budget - m.left }; capture = m.capture }
call_ended budget (Failed status m) =
    record { outcome = record { status = status; cost = budget - m.left }; capture = m.capture }

-- Runs a function with its arguments.
abbrev pub function_run : Scene → FunctionTree → List Value → CallResult
function_run s function args =
    call_ended s.site.budget
    (statements_run s function.body (first_variables function.params args) (machine s.site.budget captured_none))

-- Runs the function if there is one and it takes the arguments.
abbrev pub function_called : Scene → List Value → Option FunctionTree → CallResult
function_called s args None = refused_call statuses.NoFunction
function_called s args (Some function) =
    if are_arguments function.params args then function_run s function args
    else refused_call statuses.BadArgs

-- A call of a contract with these functions: the function must exist, it must take the arguments,
-- and its body runs within the budget.
unfoldable pub call_result : List FunctionTree → Scene → List Value → CallResult
call_result functions s args = function_called s args (function_of_name functions s.site.function)

-- The rows that a call writes: none if it fails.
abbrev pub rows_written : ℕ → ℕ → TxStatus → Captured → List Row
rows_written block tx statuses.Ok c = rows_of_puts block tx c.puts
rows_written block tx _ c = []
