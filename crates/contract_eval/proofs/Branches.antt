-- A branch or a loop of the program does what the definition of its statement says.
use Rattle.std.proofs.Common.{◌≡◌, ℕ, ◌+◌, ◌<◌, Bool, true, false, List, ◌∷◌, map, length, drop, get_or, Option, Some, None, Result, sym, ap, ◌∙◌, subst}
use Rattle.std.proofs.lemmas.List.{at_drop_more}
use Rattle.std.specs.Global.{Vec}
use Rattle.lc_base.specs.declared.host.Host.{Ghosts as Host}
use Rattle.contract_tree.specs.declared.tree.Expr.{Expr}
use Rattle.contract_tree.specs.declared.tree.Statement.{Statement}
use Rattle.contract_tree.specs.declared.tree.Form.TheVariants.{If, While}
use Rattle.contract_tree.specs.Tree.{tree_of, statement_of, statement_list, StatementTree}
use Rattle.contract_tree.proofs.Statements.{if_is, two_blocks_is, while_is}
use Rattle.eval_expressions.specs.contract_semantics.declared.variable.Variable.{Variable}
use Rattle.eval_expressions.specs.contract_semantics.declared.stop.EvalStop.{EvalStop}
use Rattle.eval_expressions.specs.contract_semantics.Scenes.{Scene}
use Rattle.eval_expressions.specs.contract_semantics.Answers.{scene_in}
use Rattle.eval_expressions.specs.contract_semantics.Steps.{Machine, machine, Step, Done, and_then}
use Rattle.eval_expressions.specs.contract_semantics.Statements.{Ending, unless_returned}
use Rattle.eval_expressions.specs.contract_semantics.Statements.{block_ended, condition_step}
use Rattle.eval_expressions.specs.contract_semantics.Statements.{statement_run, statements_run}
use Rattle.eval_expressions.specs.contract_semantics.Statements.{block_run, branch_run, loop_run}
use Rattle.contract_eval.specs.declared.flow.Flow.{Flow}
use Rattle.contract_eval.specs.Flows.{Flows}
use Rattle.eval_expressions.specs.declared.run.Run.{Run}
use Rattle.eval_expressions.specs.Runs.{Tells}
use Rattle.eval_expressions.proofs.ToldRows.{told_at, told_all}
use Rattle.contract_eval.proofs.Following.{then_flows}

-- The same statement, as another tree.
pub as_tree : (run : StatementTree → Step Ending) (s t : StatementTree) (result : Result Flow EvalStop) (variables : List Variable) (k : Machine) → s ≡ t → Flows (run t) result variables k → Flows (run s) result variables k
as_tree run s t result variables k same flows = subst (λ (u : StatementTree). Flows (run u) result variables k) (sym same) flows

pub if_flows : (s : Scene) (x : Statement) (test : Expr) (first : Vec Statement) (second : Option (Vec Statement)) (chosen : Bool) (variables others : List Variable) (m n k : Machine) (result : Result Flow EvalStop)
    → x.form ≡ If test first second → condition_step s (tree_of test) variables m ≡ Done chosen n
    → Flows (branch_run s (statement_of x) chosen variables n) result others k
    → Flows (statement_run s (statement_of x) variables m) result others k
if_flows s x test first None chosen variables others m n k result is done flows =
    let tree = if_is x test first is in
    as_tree (λ t. statement_run s t variables m) (statement_of x) _ result others k tree
    (then_flows (condition_step s (tree_of test) variables m) chosen n _ result others k done (as_tree (λ t. branch_run s t chosen variables n) _ (statement_of x) result others k (sym tree) flows))
if_flows s x test first (Some second) chosen variables others m n k result is done flows =
    let tree = two_blocks_is x test first second is in
    as_tree (λ t. statement_run s t variables m) (statement_of x) _ result others k tree
    (then_flows (condition_step s (tree_of test) variables m) chosen n _ result others k done (as_tree (λ t. branch_run s t chosen variables n) _ (statement_of x) result others k (sym tree) flows))

pub while_flows : (s : Scene) (x : Statement) (test : Expr) (body : Vec Statement) (items : List Statement) (variables others : List Variable) (m k : Machine) (result : Result Flow EvalStop)
    → x.form ≡ While test body → items ≡ body.items
    → Flows (loop_run s (tree_of test) (statement_list (map statement_of items)) m.left variables m) result others k
    → Flows (statement_run s (statement_of x) variables m) result others k
while_flows s x test body items variables others m k result is same flows =
    as_tree (λ t. statement_run s t variables m) (statement_of x) _ result others k (while_is x test body is)
    (subst (λ (items : List Statement). Flows (loop_run s (tree_of test) (statement_list (map statement_of items)) m.left variables m) result others k) same flows)

-- What is told of a step is told of an equal one.
pub told_as : {C H : Type 0} (host : Host H) (old new : Run C H) (run other : Scene → Machine → Step Ending) (result : Result Flow EvalStop) (variables : List Variable)
    → ((s : Scene) (m : Machine) → run s m ≡ other s m)
    → Tells host old new (λ s m k. Flows (other s m) result variables k)
    → Tells host old new (λ s m k. Flows (run s m) result variables k)
told_as host old new run other result variables same told =
    told_all _ _
    (λ rows is. subst (λ (step : Step Ending). Flows step result variables (machine new.left new.capture.now)) (sym (same (scene_in rows old.world.now old.site.now) (machine old.left old.capture.now))) (told_at _ _ rows is told))

-- A statement runs as its tree does.
pub runs_as : (x : Statement) (tree : StatementTree) (variables : List Variable) → statement_of x ≡ tree
    → (s : Scene) (m : Machine) → statement_run s (statement_of x) variables m ≡ statement_run s tree variables m
runs_as x tree variables is s m = ap (λ (t : StatementTree). statement_run s t variables m) is

-- The first block of an `if` runs if its condition holds.
pub first_runs : (x : Statement) (test : Expr) (first : Vec Statement) (second : Option (Vec Statement)) (items : List Statement) (variables : List Variable)
    → x.form ≡ If test first second → items ≡ first.items
    → (s : Scene) (m : Machine) → branch_run s (statement_of x) true variables m ≡ block_run s (statement_list (map statement_of items)) variables m
first_runs x test first None items variables is same s m =
    ap (λ (t : StatementTree). branch_run s t true variables m) (if_is x test first is)
    ∙ ap (λ (items : List Statement). block_run s (statement_list (map statement_of items)) variables m) (sym same)
first_runs x test first (Some second) items variables is same s m =
    ap (λ (t : StatementTree). branch_run s t true variables m) (two_blocks_is x test first second is)
    ∙ ap (λ (items : List Statement). block_run s (statement_list (map statement_of items)) variables m) (sym same)

-- Else the second one runs.
pub second_runs : (x : Statement) (test : Expr) (first second : Vec Statement) (items : List Statement) (variables : List Variable)
    → x.form ≡ If test first (Some second) → items ≡ second.items
    → (s : Scene) (m : Machine) → branch_run s (statement_of x) false variables m ≡ block_run s (statement_list (map statement_of items)) variables m
second_runs x test first second items variables is same s m =
    ap (λ (t : StatementTree). branch_run s t false variables m) (two_blocks_is x test first second is)
    ∙ ap (λ (items : List Statement). block_run s (statement_list (map statement_of items)) variables m) (sym same)

-- After a statement of a block the rest of it follows.
pub block_goes_on : (outer variables : List Variable) (body : List Statement) (i : ℕ) (x : Statement) (s : Scene) (m k : Machine) (ending : Ending) (total : Step Ending)
    → i < length body → x ≡ get_or body i x
    → and_then (statements_run s (statement_list (map statement_of (drop i body))) variables m) (block_ended outer) ≡ total
    → statement_run s (statement_of x) variables m ≡ Done ending k
    → and_then (unless_returned (statements_run s (statement_list (map statement_of (drop (i + 1) body)))) ending k) (block_ended outer) ≡ total
block_goes_on outer variables body i x s m k ending total lt is so_far done =
    let rest = λ (xs : List Statement). and_then (statements_run s (statement_list (map statement_of xs)) variables m) (block_ended outer) in
    let here = at_drop_more rest body i x lt ∙ ap (λ (y : Statement). rest (y ∷ drop (i + 1) body)) (sym is) in
    sym (here
    ∙ ap (λ (step : Step Ending). and_then (and_then step (unless_returned (statements_run s (statement_list (map statement_of (drop (i + 1) body)))))) (block_ended outer)) done)
    ∙ so_far
