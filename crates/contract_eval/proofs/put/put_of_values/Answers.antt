use Rattle.std.proofs.Common.{◌≡◌, Some, ◌∙◌}
use Rattle.contract_eval.proofs.Following.{then_flows}
use Rattle.eval_expressions.proofs.ToldRows.{told_at, told_all}
use Rattle.contract_eval.proofs.put.put_of_values.Goals as goal

pub returns-clause-step : goal.returns-clause-step
returns-clause-step g c =
    told_all _ _
    (λ rows told.
    let here : g.H.Host.rows c.args.run.now.host.now ≡ Some rows = told in
    let lent = c.in_ok-parts.ensures.keeps.lent in
    let mid = g.met.H.Host.same_rows c.args.run.now.host.now c.parts_values.new.run.host.now c.in_ok-parts.ensures.keeps.same ∙ told in
    then_flows _ _ _ _ c.put_end.result c.args.variables.now _ (told_at _ _ rows here c.in_ok-parts.ensures.step) (told_at _ _ rows mid (rw (lent.world, lent.site) at c.put_end.ensures.step)))
