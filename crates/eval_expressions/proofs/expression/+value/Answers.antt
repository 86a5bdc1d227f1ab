use Rattle.std.proofs.Common.{◌∙◌}
use Rattle.eval_expressions.proofs.Binary.{binary_gives}
use Rattle.eval_expressions.proofs.ToldRows.{told_at, told_all}
use Rattle.eval_expressions.proofs.expression.+value.Goals as goal

pub node-returns-in_ok-first-in-Binary-clause-step :
    goal.node-returns-in_ok-first-in-Binary-clause-step
node-returns-in_ok-first-in-Binary-clause-step g t c =
    told_all _ _
    (λ rows told.
    let lent = c.in_ok-first-in-Binary.ensures.keeps.lent in
    let mid = g.met.H.Host.same_rows c.args.run.now.host.now c.value-in-Binary.new.run.host.now c.in_ok-first-in-Binary.ensures.keeps.same ∙ told in
    binary_gives _ _ c.args.x.now c.in-Binary.sign c.in-Binary.first c.in-Binary.second c.deref-in-Binary.result.now c.deref-in-Binary-2.result.now _ _ _ c.in_ok-first-in-Binary.first c.right.result c.in-Binary.is c.deref-in-Binary.ensures c.deref-in-Binary-2.ensures
    (told_at _ _ rows told c.in_ok-first-in-Binary.ensures.step) (told_at _ _ rows mid (rw (lent.world, lent.site) at c.right.ensures.step)))
