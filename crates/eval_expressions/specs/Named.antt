-- The entries of a table by names are seen as variables.
use Rattle.std.specs.Prelude.{ℕ, List, Option}
use Rattle.std.specs.Option.{option_map}
use Rattle.lc_base.specs.declared.value.Value.{Value}
use Rattle.contract_semantics.specs.declared.variable.Variable.{Variable}
use Rattle.contract_semantics.specs.Expressions.{variable_of}

-- The variable with this name and value.
abbrev pub variable_in : List ℕ × Value → Variable
variable_in entry = record { name = entry.0; value = entry.1 }

-- The value of the variable with this name, if the name is visible.
abbrev pub value_in : List Variable → List ℕ → Option Value
value_in variables name = option_map (λ (variable : Variable). variable.value) (variable_of variables name)
