-- Expressions over variables that hold values have values.
use Rattle.std.proofs.Common.{◌==◌, ℕ, List, [], ◌∷◌, ◌++◌, find, Option, Some, None, Bool, ◌≡◌, true}
use Rattle.std.specs.Prelude.{IfOk, IfSome}
use Rattle.std.specs.List.{All}
use Rattle.std.specs.Cmp.Lexicographic.{pointwise}
use Rattle.std.proofs.lemmas.List.Elements.{All-nil, All-push}
use Rattle.lc_base.specs.declared.value.Value.{Value}
use Rattle.lc_base.specs.declared.value.Value.TheVariants as values
use Rattle.byte_fields.specs.Spelling.{IsValue}
use Rattle.contract_tree.specs.Tree.{Tree, Trees, none, more}
use Rattle.contract_tree.specs.Tree as tree
use Rattle.contract_semantics.specs.declared.charge.TheConstants.{CHARGE_NODE}
use Rattle.contract_semantics.specs.declared.variable.Variable.{Variable}
use Rattle.contract_semantics.specs.Operators.{binary_result, prefix_result, left_decision}
use Rattle.contract_semantics.specs.Scenes.{Scene}
use Rattle.contract_semantics.specs.Expressions.{variable_of, value_found, value_of, values_of}
use Rattle.replay_soundness.specs.Literals.{HasValues, HaveValues}
use Rattle.replay_soundness.proofs.Values.{combined_typed, prefixed_typed, decided_typed}
use Rattle.replay_soundness.proofs.Keeping.{Keeps, keeps_done, keeps_given, keeps_charged, keeps_then, keeps_unless}
use Rattle.replay_soundness.proofs.Reading.{IsTypedScene, found_typed, applied_typed}

abbrev pub HoldsValue : Variable → Type 0
HoldsValue variable = IsValue variable.value

found_by : (p : Variable → Bool) (o : Option Variable) → IfSome o (λ variable. HoldsValue variable × (p variable ≡ true)) → IfOk (value_found o) IsValue
found_by p None h = tt
found_by p (Some variable) h = h.0

variable_typed : (variables : List Variable) (name : List ℕ) → All HoldsValue variables → IfOk (value_found (variable_of variables name)) IsValue
variable_typed variables name h =
    let p : Variable → Bool = λ variable. pointwise ◌==◌ variable.name name in
    found_by p (find p variables) (found_typed HoldsValue p variables h)

module _ (s : Scene) (typed : IsTypedScene s) (variables : List Variable) (holds : All HoldsValue variables) where
  mutual
    pub value_keeps : (x : Tree) → HasValues x → Keeps IsValue (λ m. value_of s variables x m)
    value_keeps (tree.Int at z) h = keeps_charged CHARGE_NODE (keeps_done (values.Int z) h)
    value_keeps (tree.Text at text) h = keeps_charged CHARGE_NODE (keeps_done (values.Text text) h)
    value_keeps (tree.Name at name) h = keeps_charged CHARGE_NODE (keeps_given (value_found (variable_of variables name)) (variable_typed variables name holds))
    value_keeps (tree.Call at name args) h = keeps_charged CHARGE_NODE (keeps_then (values_keep [] (All-nil IsValue) args h) (λ args k. applied_typed s typed name args k))
    value_keeps (tree.Prefix at sign operand) h = keeps_charged CHARGE_NODE (keeps_then (value_keeps operand h) (λ value k. keeps_given (prefix_result sign value) (prefixed_typed sign value)))
    value_keeps (tree.Binary at sign left right) h = keeps_charged CHARGE_NODE (keeps_then (value_keeps left h.0)
        (λ first k. keeps_unless (left_decision sign first) (decided_typed sign first) (keeps_then (value_keeps right h.1) (λ second l. keeps_given (binary_result sign first second) (combined_typed sign first second k l)))))

    pub values_keep : (done : List Value) → All IsValue done → (xs : Trees) → HaveValues xs → Keeps (All IsValue) (λ m. values_of s variables done xs m)
    values_keep done d none h = keeps_done done d
    values_keep done d (more x xs) h = keeps_then (value_keeps x h.0) (λ value k. values_keep (done ++ value ∷ []) (All-push IsValue done value d k) xs h.1)
