-- Each part of an expression is charged first, and then goes on as its node does.
use Rattle.std.proofs.Common.{◌≡◌, List, refl}
use Rattle.contract_tree.specs.Tree.{Tree}
use Rattle.contract_tree.specs.Tree as tree
use Rattle.contract_semantics.specs.declared.charge.TheConstants.{CHARGE_NODE}
use Rattle.contract_semantics.specs.declared.variable.Variable.{Variable}
use Rattle.contract_semantics.specs.Scenes.{Scene}
use Rattle.contract_semantics.specs.Steps.{Machine, after_charge}
use Rattle.contract_semantics.specs.Expressions.{value_of, node_value}

pub charged_node : (s : Scene) (variables : List Variable) (x : Tree) (m : Machine) → value_of s variables x m ≡ after_charge CHARGE_NODE m (λ m. node_value s variables x m)
charged_node s variables (tree.Int at z) m = refl
charged_node s variables (tree.Text at text) m = refl
charged_node s variables (tree.Name at name) m = refl
charged_node s variables (tree.Call at name args) m = refl
charged_node s variables (tree.Prefix at sign operand) m = refl
charged_node s variables (tree.Binary at sign left right) m = refl
