use Rattle.std.proofs.Common.{ℕ, ◌-◌, List, ◌∷◌, sym, ap, subst, ◌∙◌, arith}
use Rattle.byte_fields.specs.Reading.{items_at}
use Rattle.entry_views.specs.Items.{items_read, AreRead}
use Rattle.entry_views.proofs.First.{is_first, not_first, no_items}
use Rattle.entry_views.proofs.list_view.ListView.next.Goals as goal

pub returns-then-self-eq0 : goal.returns-then-self-eq0
returns-then-self-eq0 g c = sym c.self.view_is ∙ no_items g.T.ListItem.item_at c.self.inside.count c.self.inside.bytes.now c.if-self-eq0.true c.self.invariant

pub invariant_of-self : goal.invariant_of-self
invariant_of-self g c =
    let item = g.T.ListItem.item_at in
    let f = is_first item c.self.inside.count c.self.inside.bytes.now c.in-Ok.item c.read.new.reader (omega (arith, c.if-self-eq0.false)) c.self.invariant (sym (ap item c.new-reader.ensures) ∙ c.in-Ok.ensures) in
    subst (λ (rest : List ℕ). AreRead (items_at item (c.self.inside.count - 1) rest)) (sym c.rest-self-inside.ensures) f.0

pub returns-in-Ok : goal.returns-in-Ok
returns-in-Ok g c =
    let item = g.T.ListItem.item_at in
    let f = is_first item c.self.inside.count c.self.inside.bytes.now c.in-Ok.item c.read.new.reader (omega (arith, c.if-self-eq0.false)) c.self.invariant (sym (ap item c.new-reader.ensures) ∙ c.in-Ok.ensures) in
    sym c.self.view_is ∙ f.1 ∙ ap (λ (rest : List ℕ). c.in-Ok.item ∷ items_read (items_at item (c.self.inside.count - 1) rest)) (sym c.rest-self-inside.ensures)

pub returns-in-Err : goal.returns-in-Err
returns-in-Err g c = absurd (not_first g.T.ListItem.item_at c.self.inside.count c.self.inside.bytes.now c.in-Err.field-0.left (omega (arith, c.if-self-eq0.false)) c.self.invariant (sym (ap g.T.ListItem.item_at c.new-reader.ensures) ∙ c.in-Err.ensures))
