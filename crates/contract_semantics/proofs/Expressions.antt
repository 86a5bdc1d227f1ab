-- Every expression keeps the laws, by the cases of the tree.
use Rattle.std.proofs.Common.{List, [], ◌∷◌, ◌++◌}
use Rattle.lc_base.specs.declared.value.Value.{Value}
use Rattle.lc_base.specs.declared.value.Value.TheVariants as values
use Rattle.contract_tree.specs.Tree.{Tree, Trees, none, more}
use Rattle.contract_tree.specs.Tree as tree
use Rattle.contract_semantics.specs.declared.charge.TheConstants.{CHARGE_NODE}
use Rattle.contract_semantics.specs.declared.variable.Variable.{Variable}
use Rattle.contract_semantics.specs.Operators.{binary_result, prefix_result, left_decision}
use Rattle.contract_semantics.specs.Expressions.{variable_of, value_found, value_of, values_of}
use Rattle.contract_semantics.specs.Lookups.{value_lookups, values_lookups}
use Rattle.contract_semantics.proofs.Tame.{Tame, tame_done, tame_given, tame_charged}
use Rattle.contract_semantics.proofs.Tame.{tame_charged_quiet, tame_then, tame_then_quiet}
use Rattle.contract_semantics.proofs.Tame.{tame_unless}
use Rattle.contract_semantics.proofs.Failures.{found_fails, prefixed_fails, combined_fails}
use Rattle.contract_semantics.proofs.Builtins.{tame_applied}

mutual
  pub tame_value : (variables : List Variable) (x : Tree) → Tame (λ s m. value_of s variables x m) (λ s m. value_lookups s variables x m)
  tame_value variables (tree.Int at z) = tame_charged_quiet CHARGE_NODE (tame_done (values.Int z))
  tame_value variables (tree.Text at text) = tame_charged_quiet CHARGE_NODE (tame_done (values.Text text))
  tame_value variables (tree.Name at name) = tame_charged_quiet CHARGE_NODE (tame_given (value_found (variable_of variables name)) (found_fails (variable_of variables name)))
  tame_value variables (tree.Call at name args) = tame_charged CHARGE_NODE (tame_then (tame_values variables [] args) (tame_applied name))
  tame_value variables (tree.Prefix at sign operand) = tame_charged CHARGE_NODE (tame_then_quiet (tame_value variables operand) (λ value. tame_given (prefix_result sign value) (prefixed_fails sign value)))
  tame_value variables (tree.Binary at sign left right) = tame_charged CHARGE_NODE (tame_then (tame_value variables left)
      (λ first. tame_unless (left_decision sign first) (tame_then_quiet (tame_value variables right) (λ second. tame_given (binary_result sign first second) (combined_fails sign first second)))))

  pub tame_values : (variables : List Variable) (done : List Value) (xs : Trees) → Tame (λ s m. values_of s variables done xs m) (λ s m. values_lookups s variables done xs m)
  tame_values variables done none = tame_done done
  tame_values variables done (more x xs) = tame_then (tame_value variables x) (λ value. tame_values variables (done ++ value ∷ []) xs)
