use Rattle.std.proofs.Common.{◌<◌, ◌∙◌, List, [], ap, length, subst, sym}
use Rattle.std.specs.Prelude.{slice_set}
use Rattle.std.proofs.lemmas.List.{get_or_default}
use Rattle.forward_links.specs.declared.kept_list.KeptList.{KeptList}
use Rattle.forward_links.specs.Lists.{kept_of, with_one}
use Rattle.forward_links.proofs.Growing.{uses_with_one}
use Rattle.forward_links.proofs.lists.OpenLists.add.Goals as goal

pub returns-clause-uses : goal.returns-clause-uses
returns-clause-uses c lists are =
    let kept = c.self.inside.lists.items in
    let below = subst (λ (all : List KeptList). c.args.index < length all)
    (sym c.self.view_is) c.requires in
    ap (λ (one : KeptList). slice_set kept c.args.index one) (c.in_ok-push.ensures.ok
    ∙ ap (λ (one : KeptList). with_one one c.args.dep.now c.args.row) (c.index_mut.ensures.value
    ∙ get_or_default kept c.args.index c.index_mut.result.now (kept_of []) below))
    ∙ uses_with_one kept lists c.args.index c.args.dep.now c.args.row (c.self.view_is ∙ are) below
