-- A call over a world that stands for the rows of a history has the result of the call over that
-- history.
use Rattle.std.proofs.Common.{◌≡◌, ℕ, Bool, true, false, cond, List, [], ◌∷◌, map, Option, Some, Result, Ok, Err, refl, sym, ap, ◌∙◌}
use Rattle.std.specs.Prelude.{IfOk}
use Rattle.std.specs.Option.{option_map}
use Rattle.std.specs.List.{find}
use Rattle.lc_base.specs.declared.row.Row.{Row}
use Rattle.lc_base.specs.declared.value.Value.{Value}
use Rattle.contract_tree.specs.declared.tree.Function.{Function}
use Rattle.contract_tree.specs.Tree.{FunctionTree, function_of}
use Rattle.eval_expressions.specs.contract_check.Functions.{is_called}
use Rattle.world_state.specs.Known.{Known}
use Rattle.world_state.specs.World.{is_written, StandsForRows}
use Rattle.eval_expressions.specs.contract_semantics.declared.site.CallSite.{CallSite}
use Rattle.eval_expressions.specs.contract_semantics.Scenes.{Scene, scene_of}
use Rattle.eval_expressions.specs.contract_semantics.declared.variable.Variable.{Variable}
use Rattle.eval_expressions.specs.contract_semantics.Steps.{Step, Done, Failed, and_then}
use Rattle.eval_expressions.specs.contract_semantics.Statements.{Ending, Goes, Returns, block_ended}
use Rattle.eval_expressions.specs.contract_semantics.Calls.{call_ended, function_of_name}
use Rattle.eval_expressions.specs.contract_semantics.Calls.{function_called, call_result}
use Rattle.eval_expressions.specs.contract_semantics.Answers.{scene_in}

-- If the world stands for the rows, its scene is that of the history.
same_scene : {C : Type 0} (world : Known C) (rows : List Row) (site : CallSite) → StandsForRows world rows → scene_in rows world site ≡ scene_of rows (is_written world) site
same_scene world rows site stands = λ i. record { rows = rows; place = record { newest = λ key. stands key i; written = is_written world }; site = site }

in_cond : (b : Bool) (f : Function) (rest : Option Function) → option_map function_of (cond b (Some f) rest) ≡ cond b (Some (function_of f)) (option_map function_of rest)
in_cond true f rest = refl
in_cond false f rest = refl

found_tree : (functions : List Function) (name : List ℕ) → option_map function_of (find (is_called name) functions) ≡ function_of_name (map function_of functions) name
found_tree [] name = refl
found_tree (f ∷ functions) name =
    in_cond (is_called name f) f (find (is_called name) functions)
    ∙ ap (λ (rest : Option FunctionTree). cond (is_called name f) (Some (function_of f)) rest) (found_tree functions name)

pub called_is : {C : Type 0} (world : Known C) (rows : List Row) (site : CallSite) (functions : List Function) (found : Option Function) (args : List Value) → StandsForRows world rows → found ≡ find (is_called site.function) functions
    → call_result (map function_of functions) (scene_of rows (is_written world) site) args ≡ function_called (scene_in rows world site) args (option_map function_of found)
unfolding call_result
called_is world rows site functions found args stands is =
    ap (λ (s : Scene). function_called s args (function_of_name (map function_of functions) site.function)) (sym (same_scene world rows site stands))
    ∙ ap (function_called (scene_in rows world site) args) (sym (ap (option_map function_of) is ∙ found_tree functions site.function))

pub ok_so : {T E : Type 0} (P Q : T → Type 0) (result : Result T E) → ((x : T) → P x → Q x) → IfOk result P → IfOk result Q
ok_so P Q (Ok x) f h = f x h
ok_so P Q (Err e) f h = tt

-- That a block's names end with it doesn't change how a call ends.
pub block_ends : (budget : ℕ) (step : Step Ending) (outer : List Variable) → call_ended budget step ≡ call_ended budget (and_then step (block_ended outer))
block_ends budget (Done (Goes variables) m) outer = refl
block_ends budget (Done Returns m) outer = refl
block_ends budget (Failed status m) outer = refl
