use Rattle.std.proofs.Common.{◌++◌, ◌∷◌, [], ap, ◌∙◌}
use Rattle.lc_base.specs.declared.row.Dep.{Dep}
use Rattle.entry_views.proofs.Bodies.{one_more_named}
use Rattle.entry_views.proofs.reading.without_digests.Goals as goal

pub loop-index-preserved : goal.loop-index-preserved
loop-index-preserved c =
    c.in_ok-push-in-Some.ensures.ok
    ∙ ap (λ (dep : Dep). c.loop-index.deps ++ dep ∷ []) c.without_digest.ensures
    ∙ one_more_named c.args.view.now c.loop-index.deps c.loop-index.index c.in-Some.dep
    c.loop-index.invariant c.in-Some.ensures
