use Rattle.std.proofs.Common.{◌≡◌, ◌≤◌, ◌-◌, drop, List, Some, map}
use Rattle.std.specs.Prelude.{IfSome}
use Rattle.lc_base.specs.declared.row.Row.{Row}
use Rattle.contract_tree.specs.Tree.{tree_of, statement_of, statement_list}
use Rattle.eval_expressions.specs.contract_semantics.Answers.{scene_in, place_in, IsFaithful}
use Rattle.eval_expressions.specs.contract_semantics.Steps.{machine, and_then}
use Rattle.eval_expressions.specs.contract_semantics.Statements.{statements_run, block_run}
use Rattle.eval_expressions.specs.contract_semantics.Statements.{block_ended, turns, loop_turn}
use Rattle.eval_expressions.specs.contract_semantics.Statements.{loop_run}
use Rattle.eval_expressions.specs.Runs.{IsLent}
use Rattle.contract_eval.proofs.statement.+statement.Given as goal

abbrev pub invariant-block-loop-x : goal.invariant-block-loop-x
invariant-block-loop-x g l =
    record {
      lent : IsLent l.initial.run l.run;
      same : g.H.Host.same l.initial.run.host.now l.run.host.now;
      step : IfSome (g.H.Host.rows l.initial.run.host.now) (λ rows. and_then (statements_run (scene_in rows l.initial.run.world.now l.initial.run.site.now) (statement_list (map statement_of (drop l.x-index l.body))) l.variables (machine l.run.left l.run.capture.now)) (block_ended l.initial.variables)
          ≡ block_run (scene_in rows l.initial.run.world.now l.initial.run.site.now) (statement_list (map statement_of l.body)) l.initial.variables (machine l.initial.run.left l.initial.run.capture.now));
      left : l.run.left ≤ l.initial.run.left;
      faithful : IsFaithful (place_in l.initial.run.world.now) l.initial.run.capture.now → IsFaithful (place_in l.initial.run.world.now) l.run.capture.now;
      no_fault : g.H.Host.host_faults l.run.host.now ≡ g.H.Host.host_faults l.initial.run.host.now;
    }

abbrev pub invariant-turns-rounds : goal.invariant-turns-rounds
invariant-turns-rounds g l =
    record {
      lent : IsLent l.initial.run l.run;
      same : g.H.Host.same l.initial.run.host.now l.run.host.now;
      step : (rows : List Row) → g.H.Host.rows l.initial.run.host.now ≡ Some rows
          → turns (l.most - l.counter) (loop_turn (scene_in rows l.initial.run.world.now l.initial.run.site.now) (tree_of l.test) (statements_run (scene_in rows l.initial.run.world.now l.initial.run.site.now) (statement_list (map statement_of l.body)))) l.variables (machine l.run.left l.run.capture.now)
          ≡ loop_run (scene_in rows l.initial.run.world.now l.initial.run.site.now) (tree_of l.test) (statement_list (map statement_of l.body)) l.most l.initial.variables (machine l.initial.run.left l.initial.run.capture.now);
      left : l.run.left ≤ l.initial.run.left;
      faithful : IsFaithful (place_in l.initial.run.world.now) l.initial.run.capture.now → IsFaithful (place_in l.initial.run.world.now) l.run.capture.now;
      no_fault : g.H.Host.host_faults l.run.host.now ≡ g.H.Host.host_faults l.initial.run.host.now;
    }
