-- Statements put typed values, if their variables hold values.
use Rattle.std.proofs.Common.{ℕ, zero, suc, Bool, List, [], length, take, Option, Some, None}
use Rattle.std.specs.List.{All}
use Rattle.std.proofs.lemmas.List.Elements.{All-nil, All-push, All-set, All-take}
use Rattle.lc_base.specs.declared.value.Value.{Value}
use Rattle.lc_base.specs.declared.value.Value.TheVariants as values
use Rattle.lc_base.specs.declared.tx_status.TxStatus.TheVariants as statuses
use Rattle.byte_fields.specs.Spelling.{IsValue}
use Rattle.contract_tree.specs.Tree.{Tree, Trees, StatementTree, StatementTrees, no_statement, statements}
use Rattle.contract_tree.specs.Tree as tree
use Rattle.contract_semantics.specs.declared.charge.TheConstants.{CHARGE_NODE, CHARGE_PUT}
use Rattle.contract_semantics.specs.declared.variable.Variable.{Variable}
use Rattle.contract_semantics.specs.Operators.{holds}
use Rattle.contract_semantics.specs.Scenes.{Scene}
use Rattle.contract_semantics.specs.Steps.{Machine, Step}
use Rattle.contract_semantics.specs.Statements.{Ending, Goes, Returns, Turn, Again, Ended, unless_returned, block_ended, with_variable, with_assignment, variable_index, value_replaced, condition_step, turn_again, loop_turn, after_turn, turns, parts_values, put_run, remove_run, statement_run, statements_run}
use Rattle.replay_soundness.specs.Literals.{HasValues, PartsHaveValues, RunsValues, RunValues}
use Rattle.replay_soundness.proofs.Keeping.{Keeps, keeps_done, keeps_failed, keeps_charged, keeps_then, keeps_if}
use Rattle.replay_soundness.proofs.Reading.{IsTypedScene}
use Rattle.replay_soundness.proofs.Expressions.{HoldsValue, value_keeps, values_keep}
use Rattle.replay_soundness.proofs.Puts.{EndingHolds, putting_keeps}

abbrev Anything : {A : Type 0} → A → Type 0
Anything x = Unit {0}

abbrev TurnHolds : Turn → Type 0
TurnHolds (Again variables) = All HoldsValue variables
TurnHolds (Ended ending) = EndingHolds ending

returned_keeps : (next : List Variable → Machine → Step Ending)
    → ((variables : List Variable) → All HoldsValue variables → Keeps EndingHolds (next variables))
    → (ending : Ending) → EndingHolds ending
    → Keeps EndingHolds (λ m. unless_returned next ending m)
returned_keeps next h (Goes variables) k = h variables k
returned_keeps next h Returns k = keeps_done Returns tt

ended_keeps : (outer : List Variable) (ending : Ending) → EndingHolds ending
    → Keeps EndingHolds (λ m. block_ended outer ending m)
ended_keeps outer (Goes variables) k = keeps_done (Goes (take (length outer) variables)) (All-take HoldsValue (length outer) variables k)
ended_keeps outer Returns k = keeps_done Returns tt

again_keeps : (ending : Ending) → EndingHolds ending → Keeps TurnHolds (λ m. turn_again ending m)
again_keeps (Goes variables) k = keeps_done (Again variables) k
again_keeps Returns k = keeps_done (Ended Returns) tt

replaced_keeps : (o : Option ℕ) (variables : List Variable) (name : List ℕ) (value : Value)
    → All HoldsValue variables → IsValue value
    → All HoldsValue (value_replaced o variables name value)
replaced_keeps None variables name value h k = h
replaced_keeps (Some i) variables name value h k =
    All-set HoldsValue variables i (record { name = name; value = value }) k h

after_keeps : (next : List Variable → Machine → Step Ending)
    → ((variables : List Variable) → All HoldsValue variables → Keeps EndingHolds (next variables))
    → (turn : Turn) → TurnHolds turn → Keeps EndingHolds (λ m. after_turn next turn m)
after_keeps next h (Again variables) k = h variables k
after_keeps next h (Ended ending) k = keeps_done ending k

turns_keep : (turn : List Variable → Machine → Step Turn)
    → ((variables : List Variable) → All HoldsValue variables → Keeps TurnHolds (turn variables))
    → (n : ℕ) (variables : List Variable) → All HoldsValue variables
    → Keeps EndingHolds (λ m. turns n turn variables m)
unfolding turns
turns_keep turn h zero variables k = keeps_failed statuses.OutOfSteps
turns_keep turn h (suc n) variables k =
    keeps_then (h variables k) (λ t l. after_keeps (turns n turn) (turns_keep turn h n) t l)

module _ (s : Scene) (typed : IsTypedScene s) where
  condition_keeps : (test : Tree) → HasValues test → (variables : List Variable)
      → All HoldsValue variables
      → Keeps {A = Bool} Anything (λ m. condition_step s test variables m)
  condition_keeps test h variables k = keeps_charged CHARGE_NODE (keeps_then (value_keeps s typed variables k test h) (λ value l. keeps_done (holds value) tt))

  parts_keep : (parts : Option Trees) → PartsHaveValues parts → (variables : List Variable)
      → All HoldsValue variables
      → Keeps {A = Option (List Value)} Anything (λ m. parts_values s variables parts m)
  parts_keep None h variables k = keeps_done None tt
  parts_keep (Some parts) h variables k = keeps_then (values_keep s typed variables k [] (All-nil IsValue) parts h) (λ list l. keeps_done (Some list) tt)

  turn_keeps : (test : Tree) → HasValues test → (body : List Variable → Machine → Step Ending) → ((variables : List Variable) → All HoldsValue variables → Keeps EndingHolds (body variables)) → (variables : List Variable) → All HoldsValue variables → Keeps TurnHolds (λ m. loop_turn s test body variables m)
  turn_keeps test h body j variables k = keeps_then (condition_keeps test h variables k)
      (λ goes_on l. keeps_if goes_on (keeps_then (keeps_then (j variables k) (λ ending e. ended_keeps variables ending e)) again_keeps) (keeps_done (Ended (Goes variables)) k))

  put_keeps : (key value : Tree) (parts : Option Trees)
      → HasValues key × HasValues value × PartsHaveValues parts → (variables : List Variable)
      → All HoldsValue variables → Keeps EndingHolds (λ m. put_run s key value parts variables m)
  put_keeps key value parts h variables k =
      keeps_charged CHARGE_NODE (keeps_then (value_keeps s typed variables k key h.0)
      (λ at a. keeps_then (value_keeps s typed variables k value h.1)
      (λ given g. keeps_then (parts_keep parts h.2 variables k)
      (λ from f. keeps_charged CHARGE_PUT (putting_keeps s at given from variables k g)))))

  remove_keeps : (key : Tree) (parts : Option Trees) → HasValues key × PartsHaveValues parts
      → (variables : List Variable) → All HoldsValue variables
      → Keeps EndingHolds (λ m. remove_run s key parts variables m)
  remove_keeps key parts h variables k =
      keeps_charged CHARGE_NODE (keeps_then (value_keeps s typed variables k key h.0)
      (λ at a. keeps_then (parts_keep parts h.1 variables k)
      (λ from f. keeps_charged CHARGE_PUT (putting_keeps s at values.Gone from variables k tt))))

  mutual
    pub statement_keeps : (x : StatementTree) → RunsValues x → (variables : List Variable)
        → All HoldsValue variables → Keeps EndingHolds (λ m. statement_run s x variables m)
    statement_keeps (tree.Let at name_at name value) h variables k =
        keeps_charged CHARGE_NODE (keeps_then (value_keeps s typed variables k value h)
        (λ v l. keeps_done (Goes (with_variable variables name v)) (All-push HoldsValue variables (record { name = name; value = v }) k l)))
    statement_keeps (tree.Assign at name value) h variables k =
        keeps_charged CHARGE_NODE (keeps_then (value_keeps s typed variables k value h)
        (λ v l. keeps_done (Goes (with_assignment variables name v)) (replaced_keeps (variable_index variables name) variables name v k l)))
    statement_keeps (tree.If at test first) h variables k =
        keeps_then (condition_keeps test h.0 variables k)
        (λ chosen l. keeps_if chosen (keeps_then (statements_keep first h.1 variables k) (λ ending e. ended_keeps variables ending e)) (keeps_done (Goes variables) k))
    statement_keeps (tree.IfElse at test first second) h variables k =
        keeps_then (condition_keeps test h.0 variables k)
        (λ chosen l. keeps_if chosen (keeps_then (statements_keep first h.1 variables k) (λ ending e. ended_keeps variables ending e)) (keeps_then (statements_keep second h.2 variables k) (λ ending e. ended_keeps variables ending e)))
    statement_keeps (tree.While at test body) h variables k =
        record { ends = λ m t. (turns_keep (loop_turn s test (statements_run s body)) (turn_keeps test h.0 (statements_run s body) (statements_keep body h.1)) m.left variables k).ends m t }
    statement_keeps (tree.Put at key value parts) h variables k =
        put_keeps key value parts h variables k
    statement_keeps (tree.Remove at key parts) h variables k = remove_keeps key parts h variables k
    statement_keeps (tree.Fail at) h variables k =
        keeps_charged CHARGE_NODE (keeps_failed statuses.Failed)
    statement_keeps (tree.Return at) h variables k =
        keeps_charged CHARGE_NODE (keeps_done Returns tt)

    pub statements_keep : (xs : StatementTrees) → RunValues xs → (variables : List Variable)
        → All HoldsValue variables → Keeps EndingHolds (λ m. statements_run s xs variables m)
    statements_keep no_statement h variables k = keeps_done (Goes variables) k
    statements_keep (statements x xs) h variables k = keeps_then (statement_keeps x h.0 variables k) (returned_keeps (statements_run s xs) (statements_keep xs h.1))
