-- A number taken without a call is the value of its expression.
use Rattle.std.proofs.Common.{◌≡◌, ℕ, ℤ, List, Option, Some, None, Result, Ok, Err, refl, ap}
use Rattle.std.specs.Option.{option_map}
use Rattle.lc_base.specs.declared.value.Value.{Value}
use Rattle.lc_base.specs.declared.value.Value.TheVariants as values
use Rattle.lc_base.specs.declared.tx_status.TxStatus.{TxStatus}
use Rattle.lc_base.specs.declared.tx_status.TxStatus.TheVariants.{WrongKind}
use Rattle.contract_tree.specs.Tree.{Tree}
use Rattle.contract_tree.specs.Tree as tree
use Rattle.contract_semantics.specs.declared.variable.Variable.{Variable}
use Rattle.contract_semantics.specs.Scenes.{Scene}
use Rattle.contract_semantics.specs.Steps.{Machine, Done, step_of_result}
use Rattle.contract_semantics.specs.Expressions.{variable_of, value_found, node_value}
use Rattle.eval_expressions.specs.Named.{value_in}
use Rattle.eval_expressions.specs.PlainNumbers.{number_in, number_found, plain_number}

of_value : (value : Value) (z : ℤ) (m : Machine) → number_in value ≡ Some z → Done value m ≡ Done (values.Int z) m
of_value (values.Int w) z m e = let same : w ≡ z = cc in ap (λ (z : ℤ). Done (values.Int z) m) same
of_value (values.Text text) z m e = absurd cc
of_value values.Gone z m e = absurd cc

of_name : (found : Option Variable) (z : ℤ) (m : Machine) → number_found (option_map (λ (variable : Variable). variable.value) found) ≡ Some z → step_of_result (value_found found) m ≡ Done (values.Int z) m
of_name None z m e = absurd cc
of_name (Some variable) z m e = of_value variable.value z m e

pub plain_is : (s : Scene) (variables : List Variable) (x : Tree) (m : Machine) (z : ℤ) → plain_number variables x ≡ Some z → node_value s variables x m ≡ Done (values.Int z) m
plain_is s variables (tree.Int at w) m z e = let same : w ≡ z = cc in ap (λ (z : ℤ). Done (values.Int z) m) same
plain_is s variables (tree.Text at text) m z e = absurd cc
plain_is s variables (tree.Name at name) m z e = of_name (variable_of variables name) z m e
plain_is s variables (tree.Call at name args) m z e = absurd cc
plain_is s variables (tree.Prefix at sign operand) m z e = absurd cc
plain_is s variables (tree.Binary at sign left right) m z e = absurd cc

-- The value of a name, given what it stands for.
abbrev pub stands_for : Option Value → Result Value TxStatus
stands_for None = Err WrongKind
stands_for (Some value) = Ok value

found_value : (found : Option Variable) → value_found found ≡ stands_for (option_map (λ (variable : Variable). variable.value) found)
found_value None = refl
found_value (Some variable) = refl

pub found_is : (variables : List Variable) (name : List ℕ) → value_found (variable_of variables name) ≡ stands_for (value_in variables name)
found_is variables name = found_value (variable_of variables name)
