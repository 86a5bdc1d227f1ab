-- A literal, or a name that stands for a number, is a number without any further step.
use Rattle.std.specs.Prelude.{ℤ, List, Option, Some, None}
use Rattle.lc_base.specs.declared.value.Value.{Value}
use Rattle.lc_base.specs.declared.value.Value.TheVariants as values
use Rattle.contract_tree.specs.Tree.{Tree}
use Rattle.contract_tree.specs.Tree as tree
use Rattle.contract_semantics.specs.declared.variable.Variable.{Variable}
use Rattle.eval_expressions.specs.Named.{value_in}

-- The number, if the value is one.
abbrev pub number_in : Value → Option ℤ
number_in (values.Int z) = Some z
number_in value = None

-- The number that a name stands for, if it stands for one.
abbrev pub number_found : Option Value → Option ℤ
number_found None = None
number_found (Some value) = number_in value

-- The number of an expression that is a literal, or a name that stands for a number.
abbrev pub plain_number : List Variable → Tree → Option ℤ
plain_number variables (tree.Int at z) = Some z
plain_number variables (tree.Text at text) = None
plain_number variables (tree.Name at name) = number_found (value_in variables name)
plain_number variables (tree.Call at name args) = None
plain_number variables (tree.Prefix at sign operand) = None
plain_number variables (tree.Binary at sign left right) = None
