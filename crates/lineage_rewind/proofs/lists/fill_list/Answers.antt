use Rattle.std.proofs.Common.{◌≡◌, ◌∙◌, Some, length}
use Rattle.lineage_index.specs.Growth.{uses_at}
use Rattle.lineage_index.proofs.BlockSteps.{as_many_entries}
use Rattle.lineage_rewind.proofs.Filled.{can_fill, row_in_all, users_below, within_all}
use Rattle.lineage_rewind.proofs.lists.fill_list.Goals as goal

pub uses-requires : goal.uses-requires
uses-requires c =
    let given = c.requires in (
      given.0,
      given.2,
      given.5.whole_is,
      within_all given.0 given.1 given.2 c.args.whole.now c.args.store.now given.5 c.args.index
          given.3 given.6,
    )

pub add_uses-requires : goal.add_uses-requires
add_uses-requires c =
    let given = c.requires in
    let rows = given.1 in
    let row = given.3 in
    let first = given.5 in
    let at = given.6 in
    let own = c.uses.ensures.indexes given.0 given.2 row first.whole_is
    (row_in_all given.0 rows given.2 c.args.whole.now c.args.store.now first c.args.index row at) in
    let end : c.count.result ≡ length rows = c.count.ensures.count
    ∙ as_many_entries rows c.args.store.now first.store.entries_are in
    let below = users_below given.0 rows given.2 c.args.whole.now c.args.store.now first
    c.args.index row at
    c.uses.result.now c.in_ok-users.users c.count.result own end c.in_ok-users.ensures in (
      rows,
      uses_at rows row.key (Some row),
      given.4,
      can_fill given.0 rows given.2 c.args.whole.now c.args.store.now first c.args.index row at
          given.4 c.args.list
          c.args.lists.now c.as_slice.result.now given.7 (c.as_slice.ensures ∙ below),
    )

pub returns : goal.returns
returns c every rows n row all first at empty =
    let own = c.uses.ensures.indexes every n row first.whole_is
    (row_in_all every rows n c.args.whole.now c.args.store.now first c.args.index row at) in
    let end : c.count.result ≡ length rows = c.count.ensures.count
    ∙ as_many_entries rows c.args.store.now first.store.entries_are in
    let below = users_below every rows n c.args.whole.now c.args.store.now first c.args.index row at
    c.uses.result.now c.in_ok-users.users c.count.result own end c.in_ok-users.ensures in
    c.in_ok-add_uses.ensures rows (uses_at rows row.key (Some row)) all
    (can_fill every rows n c.args.whole.now c.args.store.now first c.args.index row at all
    c.args.list
    c.args.lists.now c.as_slice.result.now empty (c.as_slice.ensures ∙ below))
