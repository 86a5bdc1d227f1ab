use Rattle.std.proofs.Common.{◌≡◌, ◌++◌, ◌∷◌, [], ◌∙◌, length, ap, sym, subst, take, arith}
use Rattle.std.proofs.lemmas.List.{take_all, take_more, length-append, length-take-le}
use Rattle.lineage_index.specs.Growth.{open_uses}
use Rattle.lineage_index.specs.Settling.{AreSettling, settled_states}
use Rattle.lineage_index.proofs.Settled.{settled_short}
use Rattle.lineage_index.proofs.SettledRows.{may_close, settled_more}
use Rattle.lineage_index.proofs.settling.settle_rows.Goals as goal

pub set_newest-requires-clause-room : goal.set_newest-requires-clause-room
set_newest-requires-clause-room c =
    let given = c.requires.settled in
    let rows = given.0 in
    let new = c.args.new.now in
    let done = take c.loop-row.row-index new in
    let s = c.loop-row.invariant.settled rows given.1 given.2 given.3 in
    let long = length-take-le c.loop-row.row-index new (omega (arith, c.loop-row-test.true)) in
    let short = settled_short rows done (open_uses rows new) c.loop-row.tree c.loop-row.lists
    c.loop-row.newest.items s.heads in
    omega (
      arith,
      short,
      length-append rows done,
      long,
      given.3,
      c.loop-row-test.true,
      c.requires.room,
    )

pub set_newest-requires-clause-heads : goal.set_newest-requires-clause-heads
set_newest-requires-clause-heads c =
    let given = c.requires.settled in
    let rows = given.0 in
    let new = c.args.new.now in
    let i = c.loop-row.row-index in
    let s = c.loop-row.invariant.settled rows given.1 given.2 given.3 in (
      settled_states rows (open_uses rows new) (take i new),
      s.heads,
      may_close rows new given.1 i c.row-item.result c.loop-row.tree c.loop-row.lists
          c.loop-row.newest.items c.loop-row.closed.items c.loop-row-test.true s,
    )

pub loop-row-preserved : goal.loop-row-preserved
loop-row-preserved c = record {
  at = omega (arith, c.loop-row.invariant.at);
  settled = λ rows n begun first.
      let row = c.row-item.result in
      let i = c.loop-row.row-index in
      let new = c.args.new.now in
      let done = take i new in
      let s = c.loop-row.invariant.settled rows n begun first in
      let long = length-take-le i new (omega (arith, c.loop-row-test.true)) in
      let place : c.loop-row.index ≡ length (rows ++ done) = omega (arith, c.loop-row.invariant.at, first, long, length-append rows done) in
      subst (λ done. AreSettling rows new done n c.set_newest.new.tree c.set_newest.new.lists
      c.set_newest.new.newest.items c.set_newest.new.closed.items)
      (ap (λ r. done ++ r ∷ []) c.row-item.is ∙ sym (take_more new i row c.loop-row-test.true))
      (settled_more rows new n i row c.loop-row.tree c.set_newest.new.tree c.loop-row.lists
      c.set_newest.new.lists c.loop-row.newest.items c.set_newest.new.newest.items
      c.loop-row.closed.items c.set_newest.new.closed.items c.loop-row.index c.loop-row-test.true
      place s
      (c.in_ok-set_newest.ensures.heads (settled_states rows (open_uses rows new) done) s.heads)
      (c.in_ok-set_newest.ensures.closed (settled_states rows (open_uses rows new) done) s.heads));
}

pub returns : goal.returns
returns c rows n begun first =
    let new = c.args.new.now in
    subst (λ done. AreSettling rows new done n c.loop-row.tree c.loop-row.lists
    c.loop-row.newest.items c.loop-row.closed.items)
    (take_all c.loop-row.row-index new (omega (arith, c.loop-row-test.false)))
    (c.loop-row.invariant.settled rows n begun first)
