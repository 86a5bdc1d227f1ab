use Rattle.std.proofs.Common.{List, [], ℕ, subst}
use Rattle.lineage_index.specs.Heads.{AreHeads, states_of}
use Rattle.lineage_index.specs.Settling.{entry_or_fresh}
use Rattle.lineage_rewind.proofs.Begun.{filling_begun, renewing_begun}
use Rattle.lineage_rewind.proofs.first_blocks.index_of_entries.Goals as goal

pub settle_entries-requires : goal.settle_entries-requires
settle_entries-requires c =
    let given = c.requires in (
      given.0,
      given.1,
      given.2,
      given.3,
      filling_begun given.1 c.in_ok-tree.tree c.new-lists.result c.new-newest.result.items
          c.new-closed.result.items c.in_ok-tree.ensures c.new-lists.ensures
          c.new-newest.ensures.items
          c.new-closed.ensures.items,
    )

pub renew_all-requires : goal.renew_all-requires
renew_all-requires c =
    let given = c.requires in
    let begun = filling_begun given.1 c.in_ok-tree.tree c.new-lists.result
    c.new-newest.result.items c.new-closed.result.items c.in_ok-tree.ensures c.new-lists.ensures
    c.new-newest.ensures.items c.new-closed.ensures.items in
    let filled = c.in_ok-settle_entries.ensures given.0 given.1 given.2 given.3 begun in (
      given.1,
      entry_or_fresh [],
      renewing_begun given.1 c.settle_entries.new.tree c.settle_entries.new.lists
          c.settle_entries.new.newest.items c.deref.result.now c.settle_entries.new.closed.items
          c.args.store given.3.store filled c.deref.ensures.value,
    )

pub returns : goal.returns
returns c all rows m n first within =
    let begun = filling_begun rows c.in_ok-tree.tree c.new-lists.result
    c.new-newest.result.items c.new-closed.result.items c.in_ok-tree.ensures c.new-lists.ensures
    c.new-newest.ensures.items c.new-closed.ensures.items in
    let filled = c.in_ok-settle_entries.ensures all rows m first begun in
    let renewed = c.renew_all.ensures rows (entry_or_fresh [])
    (renewing_begun rows c.settle_entries.new.tree c.settle_entries.new.lists
    c.settle_entries.new.newest.items c.deref.result.now c.settle_entries.new.closed.items
    c.args.store first.store filled c.deref.ensures.value) in
    c.of_parts.ensures rows n (record {
      store = first.store;
      within = within;
      heads = subst (λ (newest : List ℕ). AreHeads c.renew_all.new.tree c.settle_entries.new.lists
          newest (states_of rows)) c.deref.ensures.value renewed;
      closed_are = filled.closed_are;
    })
