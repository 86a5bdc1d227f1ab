use Rattle.std.proofs.Common.{map, take, sym, ap, ◌∙◌}
use Rattle.std.specs.Rc.{rc_value}
use Rattle.std.proofs.lemmas.List.{take-map}
use Rattle.shared_list.proofs.shared.Shared.prefix.Goals as goal

pub returns : goal.returns
returns g c =
    c.in_ok-items.ensures ∙ ap (λ items. map rc_value (take c.args.count items))
    c.deref.ensures.value
    ∙ sym (take-map rc_value c.args.count c.self.inside.items.items)
    ∙ ap (take c.args.count) c.self.view_is
