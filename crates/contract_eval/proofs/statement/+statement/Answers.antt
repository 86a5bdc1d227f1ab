use Rattle.std.proofs.Common.{◌≡◌, Bool, Option, Result, subst, rules, map, sym, ap, Some, Ok, Err, refl, ◌∙◌, arith}
use Rattle.contract_tree.specs.declared.tree.Form.TheVariants.{If}
use Rattle.contract_tree.specs.Tree.{tree_of, parts_of, statement_of, statement_list}
use Rattle.contract_tree.proofs.Statements.{let_is, assign_is, put_is, fail_is, return_is}
use Rattle.eval_expressions.specs.contract_semantics.Answers.{scene_in}
use Rattle.eval_expressions.specs.contract_semantics.Steps.{machine}
use Rattle.eval_expressions.specs.contract_semantics.Statements.{Goes, Returns, let_run, assign_run}
use Rattle.eval_expressions.specs.contract_semantics.Statements.{put_run, statement_run}
use Rattle.eval_expressions.specs.contract_semantics.Statements.{statements_run, block_run}
use Rattle.eval_expressions.specs.contract_semantics.Statements.{branch_run, loop_turn}
use Rattle.contract_eval.proofs.Branches.{as_tree, if_flows, while_flows, told_as, runs_as, first_runs, second_runs, block_goes_on}
use Rattle.eval_expressions.specs.contract_semantics.declared.stop.EvalStop.{EvalStop}
use Rattle.contract_eval.specs.declared.flow.Flow.{Flow}
use Rattle.eval_expressions.specs.Runs.{KeepsRun}
use Rattle.contract_eval.proofs.Keeping.{kept_ok, kept_err, kept_after, kept_on}
use Rattle.contract_eval.proofs.Loops.{turn_moved, one_more, stops, ends, unblamed_at_ok}
use Rattle.eval_expressions.proofs.ToldRows.{told_at, told_all}
use Rattle.contract_eval.proofs.statement.+statement.Goals as goal

pub statement-returns-in_ok-chosen-in-If-clause-step : goal.statement-returns-in_ok-chosen-in-If-clause-step
statement-returns-in_ok-chosen-in-If-clause-step g t c =
    told_all _ _
    (λ rows told.
    let lent = c.in_ok-chosen-in-If.ensures.keeps.lent in
    let mid = g.met.H.Host.same_rows c.args.run.now.host.now c.condition_step.new.run.host.now c.in_ok-chosen-in-If.ensures.keeps.same ∙ told in
    if_flows _ c.args.x.now c.in-If.test c.in-If.first c.in-If.second c.in_ok-chosen-in-If.chosen c.args.variables.now c.branch-run.new.variables _ _ _ c.branch-run.result c.in-If.is
    (told_at _ _ rows told c.in_ok-chosen-in-If.ensures.step) (told_at _ _ rows mid (rw (lent.world, lent.site) at c.branch-run.ensures.step)))

pub statement-returns-in-While-clause-step : goal.statement-returns-in-While-clause-step
statement-returns-in-While-clause-step g t c =
    told_all _ _
    (λ rows told.
    let here : g.H.Host.rows c.args.run.now.host.now ≡ Some rows = told in
    while_flows _ c.args.x.now c.in-While.test c.in-While.body c.deref.result.now c.args.variables.now c.turns.new.variables _ _ c.turns.result c.in-While.is c.deref.ensures.value (told_at _ _ rows here c.turns.ensures.step))

pub turns-returns-in-Err-clause-step : goal.turns-returns-in-Err-clause-step
turns-returns-in-Err-clause-step g t c =
    told_all _ _
    (λ rows told.
    let lent = c.rounds.invariant.lent in
    let now = g.met.H.Host.same_rows c.args.run.now.host.now c.rounds.run.host.now c.rounds.invariant.same ∙ told in
    let same : scene_in rows c.rounds.run.world.now c.rounds.run.site.now ≡ scene_in rows c.args.run.now.world.now c.args.run.now.site.now = rw (lent.world, lent.site) refl in
    stops _ _ _ _ _ _ _ _ _ c.rounds-test.true (c.rounds.invariant.step rows told) (turn_moved (λ s. loop_turn s (tree_of c.args.test.now) (statements_run s (statement_list (map statement_of c.args.body.now)))) _ _ c.rounds.variables c.turn.new.variables (machine c.rounds.run.left c.rounds.run.capture.now) (machine c.turn.new.run.left c.turn.new.run.capture.now) (Err c.in-Err.stop) same (told_at _ _ rows now c.in-Err.ensures.step)))

pub turns-returns-in-Ok-Some-clause-step : goal.turns-returns-in-Ok-Some-clause-step
turns-returns-in-Ok-Some-clause-step g t c =
    told_all _ _
    (λ rows told.
    let lent = c.rounds.invariant.lent in
    let now = g.met.H.Host.same_rows c.args.run.now.host.now c.rounds.run.host.now c.rounds.invariant.same ∙ told in
    let same : scene_in rows c.rounds.run.world.now c.rounds.run.site.now ≡ scene_in rows c.args.run.now.world.now c.args.run.now.site.now = rw (lent.world, lent.site) refl in
    ends _ _ _ _ _ _ _ _ _ c.rounds-test.true (c.rounds.invariant.step rows told) (turn_moved (λ s. loop_turn s (tree_of c.args.test.now) (statements_run s (statement_list (map statement_of c.args.body.now)))) _ _ c.rounds.variables c.turn.new.variables (machine c.rounds.run.left c.rounds.run.capture.now) (machine c.turn.new.run.left c.turn.new.run.capture.now) (Ok (Some c.in-Ok-Some.flow)) same (told_at _ _ rows now (rw c.in-Ok-Some.field-0-is at c.in-Ok-Some.ensures.step))))

pub turns-rounds-preserved : goal.turns-rounds-preserved
turns-rounds-preserved g t c =
    let lent = c.rounds.invariant.lent in
    let next = c.in-Ok-None.ensures.keeps.lent in
    record {
      lent = record { world = next.world ∙ lent.world; site = next.site ∙ lent.site; host = next.host ∙ lent.host; capture = next.capture ∙ lent.capture };
      same = g.met.H.Host.same_trans c.args.run.now.host.now c.rounds.run.host.now c.turn.new.run.host.now c.rounds.invariant.same c.in-Ok-None.ensures.keeps.same;
      step = λ rows told.
          let now = g.met.H.Host.same_rows c.args.run.now.host.now c.rounds.run.host.now c.rounds.invariant.same ∙ told in
          one_more _ _ _ _ _ _ _ _ c.rounds-test.true (c.rounds.invariant.step rows told) (told_at _ _ rows now (rw (c.in-Ok-None.field-0-is, lent.world, lent.site) at c.in-Ok-None.ensures.step));
      left = omega (arith, c.in-Ok-None.ensures.keeps.left, c.rounds.invariant.left);
      faithful = λ is. (rw lent.world at c.in-Ok-None.ensures.keeps.faithful) (c.rounds.invariant.faithful is);
      no_fault = unblamed_at_ok (g.H.Host.host_faults c.rounds.run.host.now) (g.H.Host.host_faults c.turn.new.run.host.now) c.in-Ok-None.ensures.keeps.cause.told ∙ c.rounds.invariant.no_fault;
    }

pub statement-returns-in-Let-clause-step : goal.statement-returns-in-Let-clause-step
statement-returns-in-Let-clause-step g t c = told_as g.H.Host c.args.run.now c.bind_statement.new.run (λ s m. statement_run s (statement_of c.args.x.now) c.args.variables.now m) (λ s m. let_run s c.in-Let.name (tree_of c.in-Let.value) c.args.variables.now m) c.bind_statement.result c.bind_statement.new.variables (runs_as c.args.x.now _ c.args.variables.now (let_is c.args.x.now c.in-Let.name_at c.in-Let.name c.in-Let.value c.in-Let.is)) c.bind_statement.ensures.step

pub statement-returns-in-Assign-clause-step : goal.statement-returns-in-Assign-clause-step
statement-returns-in-Assign-clause-step g t c = told_as g.H.Host c.args.run.now c.bind_statement-in-Assign.new.run (λ s m. statement_run s (statement_of c.args.x.now) c.args.variables.now m) (λ s m. assign_run s c.in-Assign.name (tree_of c.in-Assign.value) c.args.variables.now m) c.bind_statement-in-Assign.result c.bind_statement-in-Assign.new.variables (runs_as c.args.x.now _ c.args.variables.now (assign_is c.args.x.now c.in-Assign.name c.in-Assign.value c.in-Assign.is)) c.bind_statement-in-Assign.ensures.step

pub statement-returns-in-Put-clause-step : goal.statement-returns-in-Put-clause-step
statement-returns-in-Put-clause-step g t c = told_as g.H.Host c.args.run.now c.put_statement.new.run (λ s m. statement_run s (statement_of c.args.x.now) c.args.variables.now m) (λ s m. put_run s (tree_of c.in-Put.key) (tree_of c.in-Put.value) (parts_of c.in-Put.from) c.args.variables.now m) c.put_statement.result c.args.variables.now (runs_as c.args.x.now _ c.args.variables.now (put_is c.args.x.now c.in-Put.key c.in-Put.value c.in-Put.from c.in-Put.is)) c.put_statement.ensures.step

pub statement-returns-in-Fail-clause-step : goal.statement-returns-in-Fail-clause-step
statement-returns-in-Fail-clause-step g t c =
    told_all _ _
    (λ rows told. as_tree (λ t. statement_run (scene_in rows c.args.run.now.world.now c.args.run.now.site.now) t c.args.variables.now (machine c.args.run.now.left c.args.run.now.capture.now)) (statement_of c.args.x.now) _ c.fail_statement.result c.args.variables.now (machine c.fail_statement.new.left c.args.run.now.capture.now) (fail_is c.args.x.now c.in-Fail.is) (c.fail_statement.ensures.step c.args.variables.now c.args.run.now.capture.now))

pub statement-returns-in-Return-clause-step : goal.statement-returns-in-Return-clause-step
statement-returns-in-Return-clause-step g t c =
    told_all _ _
    (λ rows told. as_tree (λ t. statement_run (scene_in rows c.args.run.now.world.now c.args.run.now.site.now) t c.args.variables.now (machine c.args.run.now.left c.args.run.now.capture.now)) (statement_of c.args.x.now) _ c.return_statement.result c.args.variables.now (machine c.return_statement.new.left c.args.run.now.capture.now) (return_is c.args.x.now c.in-Return.is) (c.return_statement.ensures.step c.args.variables.now c.args.run.now.capture.now))

pub branch-returns-then-chosen-clause-step : goal.branch-returns-then-chosen-clause-step
branch-returns-then-chosen-clause-step g t c = told_as g.H.Host c.args.run.now c.block.new.run (λ s m. branch_run s (statement_of c.args.x.now) c.args.chosen c.args.variables.now m) (λ s m. block_run s (statement_list (map statement_of c.deref.result.now)) c.args.variables.now m) c.block.result c.block.new.variables (λ s m. ap (λ (chosen : Bool). branch_run s (statement_of c.args.x.now) chosen c.args.variables.now m) c.if-chosen.true ∙ first_runs c.args.x.now c.in-If.test c.in-If.first c.in-If.second c.deref.result.now c.args.variables.now c.in-If.is c.deref.ensures.value s m) c.block.ensures.step

pub branch-returns-in-Some-clause-step : goal.branch-returns-in-Some-clause-step
branch-returns-in-Some-clause-step g t c = told_as g.H.Host c.args.run.now c.block-in-Some.new.run (λ s m. branch_run s (statement_of c.args.x.now) c.args.chosen c.args.variables.now m) (λ s m. block_run s (statement_list (map statement_of c.deref-in-Some.result.now)) c.args.variables.now m) c.block-in-Some.result c.block-in-Some.new.variables (λ s m. ap (λ (chosen : Bool). branch_run s (statement_of c.args.x.now) chosen c.args.variables.now m) c.if-chosen.false ∙ second_runs c.args.x.now c.in-If.test c.in-If.first c.in-Some.second c.deref-in-Some.result.now c.args.variables.now (c.in-If.is ∙ ap (If c.in-If.test c.in-If.first) c.in-Some.is) c.deref-in-Some.ensures.value s m) c.block-in-Some.ensures.step

pub block-returns-in-Returns-clause-step : goal.block-returns-in-Returns-clause-step
block-returns-in-Returns-clause-step g t c =
    told_all _ _
    (λ rows told.
    let lent = c.loop-x.invariant.lent in
    let now = g.met.H.Host.same_rows c.args.run.now.host.now c.loop-x.run.host.now c.loop-x.invariant.same ∙ told in
    sym (block_goes_on c.args.variables.now c.loop-x.variables c.args.body.now c.loop-x.x-index c.x-item.result (scene_in rows c.args.run.now.world.now c.args.run.now.site.now) _ _ Returns _ c.loop-x-test.true c.x-item.is (told_at _ _ rows told c.loop-x.invariant.step) (told_at _ _ rows now (rw (c.in-Returns.is, lent.world, lent.site) at c.in_ok-statement.ensures.step))))

pub block-loop-x-preserved : goal.block-loop-x-preserved
block-loop-x-preserved g t c =
    let lent = c.loop-x.invariant.lent in
    let next = c.in_ok-statement.ensures.keeps.lent in
    record {
      lent = record { world = next.world ∙ lent.world; site = next.site ∙ lent.site; host = next.host ∙ lent.host; capture = next.capture ∙ lent.capture };
      same = g.met.H.Host.same_trans c.args.run.now.host.now c.loop-x.run.host.now c.statement.new.run.host.now c.loop-x.invariant.same c.in_ok-statement.ensures.keeps.same;
      step = told_all _ _
          (λ rows told.
          let now = g.met.H.Host.same_rows c.args.run.now.host.now c.loop-x.run.host.now c.loop-x.invariant.same ∙ told in
          block_goes_on c.args.variables.now c.loop-x.variables c.args.body.now c.loop-x.x-index c.x-item.result (scene_in rows c.args.run.now.world.now c.args.run.now.site.now) _ _ (Goes c.statement.new.variables) _ c.loop-x-test.true c.x-item.is (told_at _ _ rows told c.loop-x.invariant.step) (told_at _ _ rows now (rw (c.in-Goes.is, lent.world, lent.site) at c.in_ok-statement.ensures.step)));
      left = omega (arith, c.in_ok-statement.ensures.keeps.left, c.loop-x.invariant.left);
      faithful = λ is. (rw lent.world at c.in_ok-statement.ensures.keeps.faithful) (c.loop-x.invariant.faithful is);
      no_fault = unblamed_at_ok (g.H.Host.host_faults c.loop-x.run.host.now) (g.H.Host.host_faults c.statement.new.run.host.now) c.in_ok-statement.ensures.keeps.cause.told ∙ c.loop-x.invariant.no_fault;
    }

pub statement-returns-in_ok-chosen-in-If-clause-keeps : goal.statement-returns-in_ok-chosen-in-If-clause-keeps
statement-returns-in_ok-chosen-in-If-clause-keeps g t c = kept_on g.H.Host g.met.H.Host.same_trans c.args.run.now c.condition_step.new.run c.branch-run.new.run c.in_ok-chosen-in-If.chosen c.branch-run.result c.in_ok-chosen-in-If.ensures.keeps c.branch-run.ensures.keeps

pub turn-returns-in-Returns-clause-keeps : goal.turn-returns-in-Returns-clause-keeps
turn-returns-in-Returns-clause-keeps g t c = kept_ok g.H.Host c.args.run.now c.block.new.run c.in_ok-block.field-0 _ (kept_on g.H.Host g.met.H.Host.same_trans c.args.run.now c.condition_step.new.run c.block.new.run c.in_ok-condition_step.field-0 (Ok c.in_ok-block.field-0) c.in_ok-condition_step.ensures.keeps c.in_ok-block.ensures.keeps)

pub turn-returns-in-Goes-clause-keeps : goal.turn-returns-in-Goes-clause-keeps
turn-returns-in-Goes-clause-keeps g t c = kept_ok g.H.Host c.args.run.now c.block.new.run c.in_ok-block.field-0 _ (kept_on g.H.Host g.met.H.Host.same_trans c.args.run.now c.condition_step.new.run c.block.new.run c.in_ok-condition_step.field-0 (Ok c.in_ok-block.field-0) c.in_ok-condition_step.ensures.keeps c.in_ok-block.ensures.keeps)

pub turns-returns-in-Err-clause-keeps : goal.turns-returns-in-Err-clause-keeps
turns-returns-in-Err-clause-keeps g t c = kept_err g.H.Host c.args.run.now c.turn.new.run c.in-Err.stop (kept_after g.H.Host g.met.H.Host.same_trans c.args.run.now c.rounds.run c.turn.new.run (Err c.in-Err.stop) c.rounds.invariant.lent c.rounds.invariant.same c.rounds.invariant.left c.rounds.invariant.faithful c.rounds.invariant.no_fault c.in-Err.ensures.keeps)

pub turns-returns-in-Ok-Some-clause-keeps : goal.turns-returns-in-Ok-Some-clause-keeps
turns-returns-in-Ok-Some-clause-keeps g t c = kept_ok g.H.Host c.args.run.now c.turn.new.run (Some c.in-Ok-Some.flow) c.in-Ok-Some.flow (kept_after g.H.Host g.met.H.Host.same_trans c.args.run.now c.rounds.run c.turn.new.run (Ok (Some c.in-Ok-Some.flow)) c.rounds.invariant.lent c.rounds.invariant.same c.rounds.invariant.left c.rounds.invariant.faithful c.rounds.invariant.no_fault (rw c.in-Ok-Some.field-0-is at c.in-Ok-Some.ensures.keeps))

pub block-returns-in-Returns-clause-keeps : goal.block-returns-in-Returns-clause-keeps
block-returns-in-Returns-clause-keeps g t c = kept_ok g.H.Host c.args.run.now c.statement.new.run c.in_ok-statement.field-0 _ (kept_after g.H.Host g.met.H.Host.same_trans c.args.run.now c.loop-x.run c.statement.new.run (Ok c.in_ok-statement.field-0) c.loop-x.invariant.lent c.loop-x.invariant.same c.loop-x.invariant.left c.loop-x.invariant.faithful c.loop-x.invariant.no_fault c.in_ok-statement.ensures.keeps)

pub block-returns-in_err-statement-clause-keeps : goal.block-returns-in_err-statement-clause-keeps
block-returns-in_err-statement-clause-keeps g t c =
    let is : c.from_residual.result ≡ Err c.in_err-statement.field-0.0 = search rules in
    subst (λ (result : Result Flow EvalStop). KeepsRun g.H.Host c.args.run.now c.statement.new.run result) (sym is) (kept_err g.H.Host c.args.run.now c.statement.new.run c.in_err-statement.field-0.0 (kept_after g.H.Host g.met.H.Host.same_trans c.args.run.now c.loop-x.run c.statement.new.run (Err c.in_err-statement.field-0.0) c.loop-x.invariant.lent c.loop-x.invariant.same c.loop-x.invariant.left c.loop-x.invariant.faithful c.loop-x.invariant.no_fault c.in_err-statement.ensures.keeps))

pub turn-returns-in_err-block-clause-keeps : goal.turn-returns-in_err-block-clause-keeps
turn-returns-in_err-block-clause-keeps g t c =
    let is : c.from_residual-in_err-block.result ≡ Err c.in_err-block.field-0.0 = search rules in
    subst (λ (result : Result (Option Flow) EvalStop). KeepsRun g.H.Host c.args.run.now c.block.new.run result) (sym is) (kept_err g.H.Host c.args.run.now c.block.new.run c.in_err-block.field-0.0 (kept_on g.H.Host g.met.H.Host.same_trans c.args.run.now c.condition_step.new.run c.block.new.run c.in_ok-condition_step.field-0 (Err c.in_err-block.field-0.0) c.in_ok-condition_step.ensures.keeps c.in_err-block.ensures.keeps))

pub branch-returns-then-chosen-clause-keeps : goal.branch-returns-then-chosen-clause-keeps
branch-returns-then-chosen-clause-keeps g t c = c.block.ensures.keeps

pub branch-returns-in-Some-clause-keeps : goal.branch-returns-in-Some-clause-keeps
branch-returns-in-Some-clause-keeps g t c = c.block-in-Some.ensures.keeps

pub statement-returns-in-Let-clause-keeps : goal.statement-returns-in-Let-clause-keeps
statement-returns-in-Let-clause-keeps g t c = c.bind_statement.ensures.keeps

pub statement-returns-in-Assign-clause-keeps : goal.statement-returns-in-Assign-clause-keeps
statement-returns-in-Assign-clause-keeps g t c = c.bind_statement-in-Assign.ensures.keeps

pub statement-returns-in-While-clause-keeps : goal.statement-returns-in-While-clause-keeps
statement-returns-in-While-clause-keeps g t c = c.turns.ensures.keeps

pub statement-returns-in-Put-clause-keeps : goal.statement-returns-in-Put-clause-keeps
statement-returns-in-Put-clause-keeps g t c = c.put_statement.ensures.keeps

pub statement-returns-in-Remove-clause-keeps : goal.statement-returns-in-Remove-clause-keeps
statement-returns-in-Remove-clause-keeps g t c = c.remove_statement.ensures.keeps

pub statement-returns-in_err-chosen-in-If-clause-keeps : goal.statement-returns-in_err-chosen-in-If-clause-keeps
statement-returns-in_err-chosen-in-If-clause-keeps g t c =
    let is : c.from_residual.result ≡ Err c.in_err-chosen-in-If.field-0.0 = search rules in
    subst (λ (result : Result Flow EvalStop). KeepsRun g.H.Host c.args.run.now c.condition_step.new.run result) (sym is) (kept_err g.H.Host c.args.run.now c.condition_step.new.run c.in_err-chosen-in-If.field-0.0 c.in_err-chosen-in-If.ensures.keeps)

pub turn-returns-in_err-condition_step-clause-keeps : goal.turn-returns-in_err-condition_step-clause-keeps
turn-returns-in_err-condition_step-clause-keeps g t c =
    let is : c.from_residual.result ≡ Err c.in_err-condition_step.field-0.0 = search rules in
    subst (λ (result : Result (Option Flow) EvalStop). KeepsRun g.H.Host c.args.run.now c.condition_step.new.run result) (sym is) (kept_err g.H.Host c.args.run.now c.condition_step.new.run c.in_err-condition_step.field-0.0 c.in_err-condition_step.ensures.keeps)

pub turn-returns-then-not-branch-clause-keeps : goal.turn-returns-then-not-branch-clause-keeps
turn-returns-then-not-branch-clause-keeps g t c = kept_ok g.H.Host c.args.run.now c.condition_step.new.run c.in_ok-condition_step.field-0 _ c.in_ok-condition_step.ensures.keeps
