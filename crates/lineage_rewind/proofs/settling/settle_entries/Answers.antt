use Rattle.std.proofs.Common.{◌≡◌, ◌<◌, ◌+◌, ◌∙◌, List, [], ◌∷◌, ◌++◌, length, map, take, ap, subst}
use Rattle.std.proofs.Common.{sym}
use Rattle.std.proofs.Common.{arith}
use Rattle.std.proofs.lemmas.List.{take_more, take_all, length-take-le}
use Rattle.std.proofs.lemmas.Option.{get_or_from_slice_get}
use Rattle.lc_base.specs.declared.row.Row.{Row}
use Rattle.lineage_index.specs.entry_store.declared.entry.Facts.{Facts}
use Rattle.lineage_index.specs.Heads.{with_version}
use Rattle.lineage_index.proofs.BlockSteps.{as_many_entries}
use Rattle.lineage_index.proofs.NewestRows.{row_at}
use Rattle.lineage_rewind.specs.Front.{AreFilling, filled_states}
use Rattle.lineage_rewind.proofs.Reading.{facts_read}
use Rattle.lineage_rewind.proofs.Begun.{filled_short, may_close, opened, row_filled}
use Rattle.lineage_rewind.proofs.settling.settle_entries.Goals as goal

pub set_newest-requires-clause-room : goal.set_newest-requires-clause-room
set_newest-requires-clause-room c =
    let given = c.requires in
    let rows = given.1 in
    let store = given.3.store in
    let i = c.loop-index.index in
    let within : i < length rows = omega (
      arith,
      as_many_entries rows c.args.store.now store.entries_are,
      c.count-index-end.ensures.count,
      c.loop-index-test.true,
    ) in
    let short = filled_short rows (take i rows) c.loop-index.tree c.loop-index.lists
    c.loop-index.newest.items c.loop-index.closed.items
    (c.loop-index.invariant given.0 rows given.2 given.3 given.4) in
    omega (
      arith,
      short,
      length-take-le i rows (omega (arith, within)),
      within,
      store.lawful.few,
    )

pub set_newest-requires-clause-heads : goal.set_newest-requires-clause-heads
set_newest-requires-clause-heads c =
    let given = c.requires in
    let rows = given.1 in
    let store = given.3.store in
    let i = c.loop-index.index in
    let within : i < length rows = omega (
      arith,
      as_many_entries rows c.args.store.now store.entries_are,
      c.count-index-end.ensures.count,
      c.loop-index-test.true,
    ) in
    let row = row_at rows i within in
    let key : c.facts-facts.result.key ≡ row.0.key = ap (λ (f : Facts). f.key)
    (facts_read rows c.args.store.now i row.0 c.facts-facts.result store row.1
    c.facts-facts.ensures) in
    let at : i ≡ length (take i rows) = sym (length-take-le i rows (omega (arith, within))) in
    let before = c.loop-index.invariant given.0 rows given.2 given.3 given.4 in (
      filled_states rows (take i rows),
      before.heads,
      may_close rows (take i rows) row.0 c.facts-facts.result.key key i at c.loop-index.tree
          c.loop-index.lists c.loop-index.newest.items c.loop-index.closed.items before,
    )

pub fill_list-requires : goal.fill_list-requires
fill_list-requires c =
    let given = c.requires in
    let rows = given.1 in
    let store = given.3.store in
    let i = c.loop-index.index in
    let within : i < length rows = omega (
      arith,
      as_many_entries rows c.args.store.now store.entries_are,
      c.count-index-end.ensures.count,
      c.loop-index-test.true,
    ) in
    let row = row_at rows i within in
    let key : c.facts-facts.result.key ≡ row.0.key = ap (λ (f : Facts). f.key)
    (facts_read rows c.args.store.now i row.0 c.facts-facts.result store row.1
    c.facts-facts.ensures) in
    let done = take i rows in
    let at : i ≡ length done = sym (length-take-le i rows (omega (arith, within))) in
    let before = c.loop-index.invariant given.0 rows given.2 given.3 given.4 in
    let after = with_version (filled_states rows done) row.0.key i in (
      given.0,
      rows,
      given.2,
      row.0,
      map after.list after.keys,
      given.3,
      row.1,
      opened rows done row.0 c.facts-facts.result.key key i at c.set_newest.new.tree
          c.set_newest.new.lists c.set_newest.new.newest.items c.in_ok-list.list
          (c.in_ok-list.ensures.heads (filled_states rows done) before.heads)
          (c.in_ok-list.ensures.index (filled_states rows done) before.heads),
    )

pub loop-index-preserved : goal.loop-index-preserved
loop-index-preserved c all rows n first begun =
    let store = first.store in
    let i = c.loop-index.index in
    let within : i < length rows = omega (
      arith,
      as_many_entries rows c.args.store.now store.entries_are,
      c.count-index-end.ensures.count,
      c.loop-index-test.true,
    ) in
    let row = row_at rows i within in
    let key : c.facts-facts.result.key ≡ row.0.key = ap (λ (f : Facts). f.key)
    (facts_read rows c.args.store.now i row.0 c.facts-facts.result store row.1
    c.facts-facts.ensures) in
    let more : take (i + 1) rows ≡ take i rows ++ row.0 ∷ [] = take_more rows i row.0 within
    ∙ ap (λ (r : Row). take i rows ++ r ∷ []) (get_or_from_slice_get rows i row.0 row.0 row.1)
    in
    let done = take i rows in
    let at : i ≡ length done = sym (length-take-le i rows (omega (arith, within))) in
    let before = c.loop-index.invariant all rows n first begun in
    let after = with_version (filled_states rows done) row.0.key i in
    let heads = c.in_ok-list.ensures.heads (filled_states rows done) before.heads in
    let place = c.in_ok-list.ensures.index (filled_states rows done) before.heads in
    let filled = c.in_ok-fill_list.ensures all rows n row.0 (map after.list after.keys) first row.1
    (opened rows done row.0 c.facts-facts.result.key key i at c.set_newest.new.tree
    c.set_newest.new.lists c.set_newest.new.newest.items c.in_ok-list.list heads place) in
    subst (λ (rs : List Row). AreFilling rows rs c.set_newest.new.tree c.fill_list.new.lists
    c.set_newest.new.newest.items c.set_newest.new.closed.items) (sym more)
    (row_filled rows done row.0 c.facts-facts.result.key key i at c.loop-index.tree
    c.set_newest.new.tree c.loop-index.lists c.set_newest.new.lists c.fill_list.new.lists
    c.loop-index.newest.items c.set_newest.new.newest.items c.loop-index.closed.items
    c.set_newest.new.closed.items c.in_ok-list.list before heads
    (c.in_ok-list.ensures.closed (filled_states rows done) before.heads) place filled)

pub returns : goal.returns
returns c all rows n first begun =
    let every = take_all c.loop-index.index rows
    (omega (
      arith,
      as_many_entries rows c.args.store.now first.store.entries_are,
      c.count-index-end.ensures.count,
      c.loop-index-test.false,
    )) in
    subst (λ (done : List Row). AreFilling rows done c.loop-index.tree c.loop-index.lists
    c.loop-index.newest.items c.loop-index.closed.items) every
    (c.loop-index.invariant all rows n first begun)
