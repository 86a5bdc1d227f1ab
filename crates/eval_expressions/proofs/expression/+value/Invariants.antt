use Rattle.std.proofs.Common.{◌≡◌, ◌≤◌, [], drop, map}
use Rattle.std.specs.Prelude.{IfSome}
use Rattle.contract_tree.specs.Tree.{tree_of, trees}
use Rattle.contract_semantics.specs.Expressions.{values_of}
use Rattle.contract_semantics.specs.Answers.{scene_in, place_in, IsFaithful}
use Rattle.contract_semantics.specs.Steps.{machine}
use Rattle.eval_expressions.specs.Runs.{IsLent}
use Rattle.eval_expressions.proofs.expression.+value.Given as goal

abbrev pub invariant-values-loop-x : goal.invariant-values-loop-x
invariant-values-loop-x g l =
    record {
      lent : IsLent l.initial.run l.run;
      same : g.H.Host.same l.initial.run.host.now l.run.host.now;
      step : IfSome (g.H.Host.rows l.initial.run.host.now) (λ rows. values_of (scene_in rows l.initial.run.world.now l.initial.run.site.now) l.variables l.all.items (trees (map tree_of (drop l.x-index l.xs))) (machine l.run.left l.run.capture.now)
          ≡ values_of (scene_in rows l.initial.run.world.now l.initial.run.site.now) l.variables [] (trees (map tree_of l.xs)) (machine l.initial.run.left l.initial.run.capture.now));
      left : l.run.left ≤ l.initial.run.left;
      faithful : IsFaithful (place_in l.initial.run.world.now) l.initial.run.capture.now → IsFaithful (place_in l.initial.run.world.now) l.run.capture.now;
      no_fault : g.H.Host.host_faults l.run.host.now ≡ g.H.Host.host_faults l.initial.run.host.now;
    }
