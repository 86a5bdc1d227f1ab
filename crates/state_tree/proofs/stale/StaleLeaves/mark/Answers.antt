use Rattle.std.proofs.Common.{◌∙◌, ◌<◌, true, false, length, refl, ap, sym, arith}
use Rattle.std.proofs.lemmas.List.{length-set}
use Rattle.state_tree.specs.Stale.{Indexes, with_index}
use Rattle.state_tree.proofs.Marks.{mark_read, is_there, not_there, room_left, marked_more}
use Rattle.state_tree.proofs.stale.StaleLeaves.mark.Goals as goal

pub returns-then-index-clause-list : goal.returns-then-index-clause-list
returns-then-index-clause-list c =
    let marks = c.self.inside.marks.items in
    let below : c.args.index < length marks = rw (← c.self.view_is) at c.requires in
    let on = mark_read marks c.args.index true c.index.result.now below c.index.ensures c.if-index.true in
    sym (ap (λ (stale : Indexes). with_index stale.list c.args.index) (sym c.self.view_is)
    ∙ is_there marks c.self.inside.list.items c.args.index c.self.invariant.are_marked on
    ∙ ap (λ (stale : Indexes). stale.list) c.self.view_is)

pub unreachable-requires : goal.unreachable-requires
unreachable-requires c =
    let marks = c.self.inside.marks.items in
    let below : c.args.index < length marks = rw (← c.self.view_is) at c.requires in
    let off = mark_read marks c.args.index false c.index.result.now below c.index.ensures c.if-index.false in
    omega (
      arith,
      c.in-Err.ensures.full,
      room_left marks c.self.inside.list.items c.args.index c.self.invariant.are_marked below off,
      c.self.invariant.room,
    )

pub invariant_of-self : goal.invariant_of-self
invariant_of-self c =
    let marks = c.self.inside.marks.items in
    let below : c.args.index < length marks = rw (← c.self.view_is) at c.requires in
    let off = mark_read marks c.args.index false c.index.result.now below c.index.ensures c.if-index.false in
    record {
      are_marked = marked_more marks _ c.self.inside.list.items c.push.new.self.items c.args.index c.self.invariant.are_marked below off refl c.in-Ok.ensures.items;
      room = omega (arith, length-set marks c.args.index true, c.self.invariant.room, c.in-Ok.ensures.capacity);
    }

pub returns-clause-list : goal.returns-clause-list
returns-clause-list c =
    let marks = c.self.inside.marks.items in
    let below : c.args.index < length marks = rw (← c.self.view_is) at c.requires in
    let off = mark_read marks c.args.index false c.index.result.now below c.index.ensures c.if-index.false in
    c.in-Ok.ensures.items ∙ sym (not_there marks c.self.inside.list.items c.args.index c.self.invariant.are_marked off)
    ∙ ap (λ (stale : Indexes). with_index stale.list c.args.index) c.self.view_is
