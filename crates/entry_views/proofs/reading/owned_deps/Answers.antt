use Rattle.std.proofs.Common.{◌∙◌}
use Rattle.entry_views.proofs.Bodies.{one_more}
use Rattle.entry_views.proofs.reading.owned_deps.Goals as goal

pub loop-index-preserved : goal.loop-index-preserved
loop-index-preserved c = c.in_ok-push-in-Some.ensures.ok
    ∙ one_more c.args.view.now c.loop-index.deps c.loop-index.index c.in-Some.dep
    c.loop-index.invariant c.in-Some.ensures
