use Rattle.std.proofs.Common.{◌≡◌, Some, ◌∙◌, ap, sym, List}
use Rattle.eval_expressions.specs.contract_semantics.declared.site.Outcome.{Outcome}
use Rattle.world_state.specs.World.{is_written, StandsForRows}
use Rattle.std.specs.Option.{option_map, option_copied}
use Rattle.lc_base.specs.declared.value.Value.{Value}
use Rattle.eval_expressions.specs.contract_semantics.Answers.{scene_in}
use Rattle.contract_tree.specs.Tree.{contract_of, function_of}
use Rattle.eval_expressions.specs.contract_semantics.Scenes.{scene_of}
use Rattle.eval_expressions.specs.contract_semantics.Calls.{call_result, function_called}
use Rattle.contract_eval.proofs.Called.{called_is, ok_so}
use Rattle.eval_expressions.proofs.ToldRows.{told_at, told_all}
use Rattle.contract_eval.proofs.calling.call.Goals as goal

pub returns-clause-outcome : goal.returns-clause-outcome
returns-clause-outcome g c =
    told_all _ _
    (λ rows told.
    let here : g.H.Host.rows c.args.host.now ≡ Some rows = told in
    let stands = told_at (StandsForRows c.args.world.now) _ rows here c.requires.stands in
    let called : call_result (contract_of c.args.code.now) (scene_of rows (is_written c.args.world.now) c.args.site.now) c.args.args.now ≡ function_called (scene_in rows c.args.world.now c.args.site.now) c.as_slice.result.now (option_map function_of (option_copied c.function-function.result)) =
    called_is c.args.world.now rows c.args.site.now c.args.code.now.functions.items (option_copied c.function-function.result) c.args.args.now stands c.function-function.ensures.named
    ∙ ap (λ (args : List Value). function_called (scene_in rows c.args.world.now c.args.site.now) args (option_map function_of (option_copied c.function-function.result))) (sym c.as_slice.ensures) in
    ok_so _ (λ (outcome : Outcome). call_result (contract_of c.args.code.now) (scene_of rows (is_written c.args.world.now) c.args.site.now) c.args.args.now ≡ record { outcome = outcome; capture = c.function_called.new.capture }) c.function_called.result
    (λ outcome is. called ∙ is)
    (told_at _ _ rows here c.function_called.ensures.outcome))
