-- A declaration and an assignment differ only in what they do with the name.
use Rattle.std.specs.Prelude.{ℕ, List}
use Rattle.contract_tree.specs.Tree.{Tree}
use Rattle.eval_expressions.specs.contract_semantics.declared.variable.Variable.{Variable}
use Rattle.eval_expressions.specs.contract_semantics.Scenes.{Scene}
use Rattle.eval_expressions.specs.contract_semantics.Steps.{Machine, Step}
use Rattle.eval_expressions.specs.contract_semantics.Statements.{Ending, let_run, assign_run}
use Rattle.contract_eval.specs.declared.binding.Binding.{Binding}
use Rattle.contract_eval.specs.declared.binding.Binding.TheVariants.{Declares, Assigns}

-- A declaration or an assignment.
abbrev pub bind_run : Scene → Binding → List ℕ → Tree → List Variable → Machine → Step Ending
bind_run s Declares name value variables m = let_run s name value variables m
bind_run s Assigns name value variables m = assign_run s name value variables m
