use Rattle.std.proofs.Common.{◌-◌, sym, subst, ◌∙◌, arith}
use Rattle.entry_views.specs.byte_fields.Reading.{items_at}
use Rattle.entry_views.specs.Items.{items_read}
use Rattle.entry_views.specs.Reading.{header_at}
use Rattle.entry_views.proofs.First.{is_first, not_first, no_items}
use Rattle.proof_codec.specs.Last.{IsOfLast}
use Rattle.proof_codec.proofs.Last.{of_others}
use Rattle.proof_codec.proofs.headers_view.HeadersView.next.Goals as goal

pub returns-then-self-eq0 : goal.returns-then-self-eq0
returns-then-self-eq0 c = sym c.self.view_is ∙ no_items header_at c.self.inside.count c.self.inside.reader c.if-self-eq0.true c.self.invariant.0

pub invariant_of-self : goal.invariant_of-self
invariant_of-self c =
    let first = is_first header_at c.self.inside.count c.self.inside.reader c.in-Ok.header.value c.read.new.reader (omega (arith, c.if-self-eq0.false)) c.self.invariant.0 c.in-Ok.ensures in
    let others = items_read (items_at header_at (c.self.inside.count - 1) c.read.new.reader) in
    (first.0, of_others c.self.inside.last_block c.in-Ok.header.value others (subst (IsOfLast c.self.inside.last_block) first.1 c.self.invariant.1))

pub returns-in-Ok : goal.returns-in-Ok
returns-in-Ok c = sym c.self.view_is ∙ (is_first header_at c.self.inside.count c.self.inside.reader c.in-Ok.header.value c.read.new.reader (omega (arith, c.if-self-eq0.false)) c.self.invariant.0 c.in-Ok.ensures).1

pub returns-in-Err : goal.returns-in-Err
returns-in-Err c = absurd (not_first header_at c.self.inside.count c.self.inside.reader c.in-Err.field-0.left (omega (arith, c.if-self-eq0.false)) c.self.invariant.0 c.in-Err.ensures)

pub invariant_of-self-in-Err : goal.invariant_of-self-in-Err
invariant_of-self-in-Err c = absurd (not_first header_at c.self.inside.count c.self.inside.reader c.in-Err.field-0.left (omega (arith, c.if-self-eq0.false)) c.self.invariant.0 c.in-Err.ensures)
