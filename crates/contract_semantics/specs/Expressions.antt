-- An expression has a value or fails with a status; its operands are evaluated from left to right.
use Rattle.std.specs.Prelude.{ℕ, ℤ, ◌==◌, List, [], ◌∷◌, ◌++◌, find, Option, Some, None, Result, Ok, Err}
use Rattle.std.specs.Cmp.Lexicographic.{pointwise}
use Rattle.lc_base.specs.declared.value.Value.{Value}
use Rattle.lc_base.specs.declared.value.Value.TheVariants as values
use Rattle.lc_base.specs.declared.tx_status.TxStatus.{TxStatus}
use Rattle.lc_base.specs.declared.tx_status.TxStatus.TheVariants.{WrongKind}
use Rattle.contract_tree.specs.declared.tree.Sign.{Sign}
use Rattle.contract_tree.specs.Tree.{Tree, Trees, none, more}
use Rattle.contract_tree.specs.Tree as tree
use Rattle.contract_semantics.specs.declared.charge.TheConstants.{CHARGE_NODE}
use Rattle.contract_semantics.specs.declared.variable.Variable.{Variable}
use Rattle.contract_semantics.specs.Operators.{binary_result, prefix_result, left_decision}
use Rattle.contract_semantics.specs.Scenes.{Scene}
use Rattle.contract_semantics.specs.Builtins.{call_by_name}
use Rattle.contract_semantics.specs.Steps.{Machine, Step, Done, and_then, after_charge, step_of_result}

-- The variable with this name.
abbrev pub variable_of : List Variable → List ℕ → Option Variable
variable_of variables name =
    find (λ (variable : Variable). pointwise ◌==◌ variable.name name) variables

-- The value of a variable. Every name that a checked contract uses is visible.
abbrev pub value_found : Option Variable → Result Value TxStatus
value_found None = Err WrongKind
value_found (Some variable) = Ok variable.value

-- The left side's decision, or else the rest.
abbrev pub unless_decided : Option ℤ → Step Value → Machine → Step Value
unless_decided None rest m = rest
unless_decided (Some z) rest m = Done (values.Int z) m

abbrev mutual
  -- The value of an expression. Each part is charged when it begins, before its operands, which are
  -- evaluated from left to right.
  pub value_of : Scene → List Variable → Tree → Machine → Step Value
  value_of s variables (tree.Int at z) m = after_charge CHARGE_NODE m (λ m. Done (values.Int z) m)
  value_of s variables (tree.Text at text) m =
      after_charge CHARGE_NODE m (λ m. Done (values.Text text) m)
  value_of s variables (tree.Name at name) m =
      after_charge CHARGE_NODE m (λ m. step_of_result (value_found (variable_of variables name)) m)
  value_of s variables (tree.Call at name args) m =
      after_charge CHARGE_NODE m
      (λ m. and_then (values_of s variables [] args m) (λ args m. call_by_name s name args m))
  value_of s variables (tree.Prefix at sign operand) m =
      after_charge CHARGE_NODE m
      (λ m. and_then (value_of s variables operand m) (λ value m. step_of_result (prefix_result sign value) m))
  value_of s variables (tree.Binary at sign left right) m =
      after_charge CHARGE_NODE m
      (λ m. and_then (value_of s variables left m)
      (λ first m. unless_decided (left_decision sign first)
      (and_then (value_of s variables right m) (λ second m. step_of_result (binary_result sign first second) m))
      m))

  -- The values of expressions, one after another, after those that are done.
  pub values_of : Scene → List Variable → List Value → Trees → Machine → Step (List Value)
  values_of s variables done none m = Done done m
  values_of s variables done (more x xs) m =
      and_then (value_of s variables x m)
      (λ value m. values_of s variables (done ++ value ∷ []) xs m)

-- A call of a builtin by its name, after its node has been charged.
abbrev pub call_value : Scene → List Variable → List ℕ → Trees → Machine → Step Value
call_value s variables name args m =
    and_then (values_of s variables [] args m) (λ args m. call_by_name s name args m)

-- What an operator returns, once its left side has been evaluated.
abbrev pub right_value : Scene → List Variable → Sign → Value → Tree → Machine → Step Value
right_value s variables sign first right m =
    unless_decided (left_decision sign first)
    (and_then (value_of s variables right m) (λ second m. step_of_result (binary_result sign first second) m))
    m

-- The value of an expression, after its node has been charged.
abbrev pub node_value : Scene → List Variable → Tree → Machine → Step Value
node_value s variables (tree.Int at z) m = Done (values.Int z) m
node_value s variables (tree.Text at text) m = Done (values.Text text) m
node_value s variables (tree.Name at name) m =
    step_of_result (value_found (variable_of variables name)) m
node_value s variables (tree.Call at name args) m = call_value s variables name args m
node_value s variables (tree.Prefix at sign operand) m =
    and_then (value_of s variables operand m) (λ value m. step_of_result (prefix_result sign value) m)
node_value s variables (tree.Binary at sign left right) m =
    and_then (value_of s variables left m)
    (λ first m. right_value s variables sign first right m)
