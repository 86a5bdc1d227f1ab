use Rattle.std.proofs.Common.{◌+◌, arith}
use Rattle.lc_base.specs.History.{up_to}
use Rattle.lineage_index.proofs.BlockSteps.{as_many_entries}
use Rattle.lineage_rewind.proofs.Cut.{are_first, rows_within, store_of}
use Rattle.lineage_rewind.proofs.first_blocks.front.Goals as goal

pub count_up_to-count-requires : goal.count_up_to-count-requires
count_up_to-count-requires c =
    let given = c.requires in (
      given.0,
      store_of given.0 given.1 c.args.index.now c.store.result.now given.2
          (c.store.ensures given.0 given.1 given.2),
    )

pub front-requires : goal.front-requires
front-requires c =
    let given = c.requires in
    let cut = c.count_up_to-count.ensures given.0
    (store_of given.0 given.1 c.args.index.now c.store.result.now given.2
    (c.store.ensures given.0 given.1 given.2)) in
    omega (
      arith,
      cut.within,
      as_many_entries given.0 c.store-2.result.now
          (c.store-2.ensures given.0 given.1 given.2),
    )

pub index_of_entries-requires : goal.index_of_entries-requires
index_of_entries-requires c =
    let given = c.requires in
    let rows = given.0 in
    let cut = c.count_up_to-count.ensures rows
    (store_of rows given.1 c.args.index.now c.store.result.now given.2
    (c.store.ensures rows given.1 given.2)) in (
      rows,
      up_to rows c.args.at,
      given.1,
      are_first rows c.args.at c.count_up_to-count.result cut given.1 c.args.index.now
          c.in_ok-store.store c.store-2.result.now given.2 (c.store-2.ensures rows given.1 given.2)
          c.in_ok-store.ensures,
    )

pub returns : goal.returns
returns c rows n is =
    let cut = c.count_up_to-count.ensures rows
    (store_of rows n c.args.index.now c.store.result.now is (c.store.ensures rows n is)) in
    c.in_ok-first.ensures rows (up_to rows c.args.at) n (c.args.at + 1)
    (are_first rows c.args.at c.count_up_to-count.result cut n c.args.index.now c.in_ok-store.store
    c.store-2.result.now is (c.store-2.ensures rows n is) c.in_ok-store.ensures)
    (rows_within rows c.args.at c.count_up_to-count.result cut)
