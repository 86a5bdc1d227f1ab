use Rattle.std.proofs.Common.{sym, ◌∙◌, ◌<◌, arith}
use Rattle.entry_views.specs.Reading.{body_at}
use Rattle.entry_views.proofs.First.{is_first, not_first, no_items}
use Rattle.range_verifier.proofs.bodies_view.BodiesView.next.Goals as goal

pub returns-then-self-eq0 : goal.returns-then-self-eq0
returns-then-self-eq0 c =
    sym c.self.view_is
    ∙ no_items body_at c.self.inside.count c.self.inside.reader c.if-self-eq0.true c.self.invariant

pub invariant_of-self : goal.invariant_of-self
invariant_of-self c =
    let some : 0 < c.self.inside.count = omega (arith, c.if-self-eq0.false) in
    let body = c.in-Ok.body.value in
    (is_first body_at c.self.inside.count c.self.inside.reader body c.read.new.reader some
    c.self.invariant c.in-Ok.ensures).0

pub returns-in-Ok : goal.returns-in-Ok
returns-in-Ok c =
    let some : 0 < c.self.inside.count = omega (arith, c.if-self-eq0.false) in
    let body = c.in-Ok.body.value in
    sym c.self.view_is
    ∙ (is_first body_at c.self.inside.count c.self.inside.reader body c.read.new.reader some
    c.self.invariant c.in-Ok.ensures).1

pub returns-in-Err : goal.returns-in-Err
returns-in-Err c =
    let some : 0 < c.self.inside.count = omega (arith, c.if-self-eq0.false) in
    absurd (not_first body_at c.self.inside.count c.self.inside.reader c.in-Err.field-0.left some
    c.self.invariant c.in-Err.ensures)

pub invariant_of-self-in-Err : goal.invariant_of-self-in-Err
invariant_of-self-in-Err c =
    let some : 0 < c.self.inside.count = omega (arith, c.if-self-eq0.false) in
    absurd (not_first body_at c.self.inside.count c.self.inside.reader c.in-Err.field-0.left some
    c.self.invariant c.in-Err.ensures)
