use Rattle.std.proofs.Common.{◌≡◌, ◌∙◌, ap, sym, subst, List, length, ◌≤◌, ◌≢◌}
use Rattle.std.specs.List.{AllPairs}
use Rattle.std.proofs.lemmas.List.{take_all}
use Rattle.lc_base.specs.declared.row.Dep.{Dep}
use Rattle.lc_base.specs.Deps.{without_repeats, with_once}
use Rattle.lc_base.proofs.Repeats.{one_more_dep, length_once, apart_once}
use Rattle.lc_base.proofs.deps.DepList.without_repeats.Goals as goal

pub loop-dep-preserved : goal.loop-dep-preserved
loop-dep-preserved c =
    c.in_ok-push_once.ensures
    ∙ ap (λ (deps : List Dep). with_once deps c.dep-item.result) c.loop-dep.invariant
    ∙ sym (one_more_dep c.args.deps.now c.loop-dep.dep-index c.dep-item.result c.loop-dep-test.true c.dep-item.is)

whole : (c : goal.After-loop-dep) → c.loop-dep.list ≡ without_repeats c.args.deps.now
whole c = c.loop-dep.invariant ∙ ap without_repeats (take_all c.loop-dep.dep-index c.args.deps.now c.loop-dep-test.false)

pub returns-clause-once : goal.returns-clause-once
returns-clause-once c = subst (AllPairs ◌≢◌) (sym (whole c)) (apart_once c.args.deps.now)

pub returns-clause-short : goal.returns-clause-short
returns-clause-short c = subst (λ (list : List Dep). length list ≤ length c.args.deps.now) (sym (whole c)) (length_once c.args.deps.now)
