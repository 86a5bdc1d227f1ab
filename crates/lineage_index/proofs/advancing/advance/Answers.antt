use Rattle.std.proofs.Common.{◌≡◌, ◌++◌, ◌∙◌, ℕ, List, [], length, ap, sym, arith}
use Rattle.plain_rows.specs.root_laws.Root.{keys_of}
use Rattle.lineage_index.specs.Growth.{deps_touched, entry_of, keys_touched}
use Rattle.lineage_index.specs.Leaves.{leaf_indexes}
use Rattle.lineage_index.specs.Heads.{open_list}
use Rattle.lineage_index.specs.Settling.{entry_or_fresh}
use Rattle.lineage_index.proofs.BlockSteps.{
  deps_stay,
  distinct_deps,
  kept_lists,
  uses_added,
  settling_begins,
  renewing_begins,
  block_kept,
  as_many_entries,
  room_for,
  using_at,
  renewing_at,
}
use Rattle.lineage_index.proofs.NewEntries.{all_bytes_read, few_deps}
use Rattle.lineage_index.proofs.advancing.advance.Goals as goal

pub spell_rows-requires-clause-room : goal.spell_rows-requires-clause-room
spell_rows-requires-clause-room c =
    let given = c.requires in
    omega (
      arith,
      c.count-first.ensures.count,
      room_for given.0 c.args.new.now given.1
          c.args.store.now given.2 given.3.store.entries_are,
    )

pub spell_rows-requires-clause-distinct : goal.spell_rows-requires-clause-distinct
spell_rows-requires-clause-distinct c = let given = c.requires in distinct_deps given.0
    c.args.new.now given.1 given.2

pub spell_rows-requires-clause-lists : goal.spell_rows-requires-clause-lists
spell_rows-requires-clause-lists c =
    let given = c.requires in (
      keys_of given.0,
      open_list given.0,
      kept_lists given.0 given.1 c.args.tree.now c.args.lists.now c.args.newest.now.items
          c.args.store.now c.args.closed.now.items given.3,
    )

pub spell_rows-requires-clause-few : goal.spell_rows-requires-clause-few
spell_rows-requires-clause-few c = let given = c.requires in few_deps given.0 c.args.new.now
    given.1 given.2

pub add_entries-requires-clause-bodies : goal.add_entries-requires-clause-bodies
add_entries-requires-clause-bodies c = c.as_slice.ensures ∙ c.in_ok-bodies.ensures.spelled

pub add_entries-requires-clause-next : goal.add_entries-requires-clause-next
add_entries-requires-clause-next c =
    let given = c.requires in
    let first : c.count-first.result ≡ length given.0 = c.count-first.ensures.count
    ∙ as_many_entries given.0 c.args.store.now given.3.store.entries_are in
    let using = uses_added given.0 c.args.new.now given.1 c.count-first.result c.args.tree.now
    c.args.lists.now c.spell_rows.new.lists c.args.newest.now.items c.args.store.now
    c.args.closed.now.items given.2 given.3 first
    (c.in_ok-bodies.ensures.lists (keys_of given.0) (open_list given.0) (kept_lists given.0 given.1
    c.args.tree.now c.args.lists.now c.args.newest.now.items c.args.store.now
    c.args.closed.now.items given.3)) in (
      given.0,
      given.1,
      using_at given.0 c.args.new.now given.1 c.args.tree.now
          c.spell_rows.new.lists c.deref.result.now c.args.newest.now.items using
          c.deref.ensures.value,
      given.3.store.entries_are,
    )

pub settle_rows-requires-clause-room : goal.settle_rows-requires-clause-room
settle_rows-requires-clause-room c =
    let given = c.requires in
    omega (arith, c.count-first.ensures.count, room_for given.0 c.args.new.now given.1 c.args.store.now given.2 given.3.store.entries_are)

pub settle_rows-requires-clause-settled : goal.settle_rows-requires-clause-settled
settle_rows-requires-clause-settled c =
    let given = c.requires in
    let first : c.count-first.result ≡ length given.0 = c.count-first.ensures.count
    ∙ as_many_entries given.0 c.args.store.now given.3.store.entries_are in
    let using = uses_added given.0 c.args.new.now given.1 c.count-first.result c.args.tree.now
    c.args.lists.now c.spell_rows.new.lists c.args.newest.now.items c.args.store.now
    c.args.closed.now.items given.2 given.3 first
    (c.in_ok-bodies.ensures.lists (keys_of given.0) (open_list given.0) (kept_lists given.0 given.1
    c.args.tree.now c.args.lists.now c.args.newest.now.items c.args.store.now
    c.args.closed.now.items given.3)) in (
      given.0,
      given.1,
      settling_begins given.0 c.args.new.now given.1 c.args.tree.now c.spell_rows.new.lists
          c.args.newest.now.items c.args.closed.now.items using given.3.closed_are,
      first,
    )

pub renew_leaves-requires-clause-renewing : goal.renew_leaves-requires-clause-renewing
renew_leaves-requires-clause-renewing c =
    let given = c.requires in
    let first : c.count-first.result ≡ length given.0 = c.count-first.ensures.count
    ∙ as_many_entries given.0 c.args.store.now given.3.store.entries_are in
    let using = uses_added given.0 c.args.new.now given.1 c.count-first.result c.args.tree.now
    c.args.lists.now c.spell_rows.new.lists c.args.newest.now.items c.args.store.now
    c.args.closed.now.items given.2 given.3 first
    (c.in_ok-bodies.ensures.lists (keys_of given.0) (open_list given.0) (kept_lists given.0 given.1
    c.args.tree.now c.args.lists.now c.args.newest.now.items c.args.store.now
    c.args.closed.now.items given.3)) in
    let entries = c.in_ok-add_entries.ensures given.0 given.1 (using_at given.0 c.args.new.now
    given.1 c.args.tree.now c.spell_rows.new.lists c.deref.result.now c.args.newest.now.items
    using c.deref.ensures.value) given.3.store.entries_are in
    let settled = c.in_ok-settle_rows.ensures given.0 given.1 (settling_begins given.0
    c.args.new.now given.1 c.args.tree.now c.spell_rows.new.lists c.args.newest.now.items
    c.args.closed.now.items using given.3.closed_are) first in
    let begun = renewing_begins given.0 c.args.new.now given.1 c.settle_rows.new.tree
    c.settle_rows.new.lists c.settle_rows.new.newest.items c.add_entries.new.store
    c.settle_rows.new.closed.items given.2 settled entries in (
      given.0 ++ c.args.new.now,
      entry_or_fresh given.0,
      renewing_at (given.0 ++ c.args.new.now)
          (entry_or_fresh given.0) [] c.settle_rows.new.tree c.settle_rows.new.lists
          c.deref-2.result.now c.settle_rows.new.newest.items c.add_entries.new.store begun
          c.deref-2.ensures.value,
    )

pub renew_leaves-requires-clause-touched : goal.renew_leaves-requires-clause-touched
renew_leaves-requires-clause-touched c =
    let given = c.requires in
    let first : c.count-first.result ≡ length given.0 = c.count-first.ensures.count
    ∙ as_many_entries given.0 c.args.store.now given.3.store.entries_are in
    let using = uses_added given.0 c.args.new.now given.1 c.count-first.result c.args.tree.now
    c.args.lists.now c.spell_rows.new.lists c.args.newest.now.items c.args.store.now
    c.args.closed.now.items given.2 given.3 first
    (c.in_ok-bodies.ensures.lists (keys_of given.0) (open_list given.0) (kept_lists given.0 given.1
    c.args.tree.now c.args.lists.now c.args.newest.now.items c.args.store.now
    c.args.closed.now.items given.3)) in
    let settled = c.in_ok-settle_rows.ensures given.0 given.1 (settling_begins given.0
    c.args.new.now given.1 c.args.tree.now c.spell_rows.new.lists c.args.newest.now.items
    c.args.closed.now.items using given.3.closed_are) first in
    c.in_ok-bodies.ensures.touched
    ∙ ap (λ (before : List ℕ). before ++ leaf_indexes c.args.tree.now
    (deps_touched c.args.new.now)) c.new-touched.ensures.items
    ∙ deps_stay given.0 c.args.new.now given.1 c.args.tree.now c.settle_rows.new.tree
    (entry_of given.0) (entry_or_fresh given.0) given.2 given.3.heads.leaves_are
    settled.heads.leaves_are

pub returns-clause-kept : goal.returns-clause-kept
returns-clause-kept c rows n g k =
    let first : c.count-first.result ≡ length rows = c.count-first.ensures.count
    ∙ as_many_entries rows c.args.store.now k.store.entries_are in
    let using = uses_added rows c.args.new.now n c.count-first.result c.args.tree.now
    c.args.lists.now c.spell_rows.new.lists c.args.newest.now.items c.args.store.now
    c.args.closed.now.items g k first
    (c.in_ok-bodies.ensures.lists (keys_of rows) (open_list rows) (kept_lists rows n
    c.args.tree.now c.args.lists.now c.args.newest.now.items c.args.store.now
    c.args.closed.now.items k)) in
    let entries = c.in_ok-add_entries.ensures rows n (using_at rows c.args.new.now n
    c.args.tree.now c.spell_rows.new.lists c.deref.result.now c.args.newest.now.items using
    c.deref.ensures.value) k.store.entries_are in
    let settled = c.in_ok-settle_rows.ensures rows n (settling_begins rows c.args.new.now n
    c.args.tree.now c.spell_rows.new.lists c.args.newest.now.items c.args.closed.now.items using
    k.closed_are) first in
    let begun = renewing_begins rows c.args.new.now n c.settle_rows.new.tree
    c.settle_rows.new.lists c.settle_rows.new.newest.items c.add_entries.new.store
    c.settle_rows.new.closed.items g settled entries in
    let renewed = c.in_ok-renew_leaves.ensures (rows ++ c.args.new.now) (entry_or_fresh rows)
    (renewing_at (rows ++ c.args.new.now) (entry_or_fresh rows) [] c.settle_rows.new.tree
    c.settle_rows.new.lists c.deref-2.result.now c.settle_rows.new.newest.items
    c.add_entries.new.store begun c.deref-2.ensures.value) in
    block_kept rows c.args.new.now n c.renew_leaves.new.tree c.settle_rows.new.lists
    c.settle_rows.new.newest.items c.add_entries.new.store c.settle_rows.new.closed.items g
    (renewing_at (rows ++ c.args.new.now) (entry_or_fresh rows) (keys_touched c.args.new.now)
    c.renew_leaves.new.tree c.settle_rows.new.lists c.settle_rows.new.newest.items
    c.deref-2.result.now c.add_entries.new.store renewed (sym c.deref-2.ensures.value))
    settled.closed_are

pub returns-clause-bodies : goal.returns-clause-bodies
returns-clause-bodies c rows n g k =
    let first : c.count-first.result ≡ length rows = c.count-first.ensures.count
    ∙ as_many_entries rows c.args.store.now k.store.entries_are in
    let using = uses_added rows c.args.new.now n c.count-first.result c.args.tree.now
    c.args.lists.now c.spell_rows.new.lists c.args.newest.now.items c.args.store.now
    c.args.closed.now.items g k first
    (c.in_ok-bodies.ensures.lists (keys_of rows) (open_list rows) (kept_lists rows n
    c.args.tree.now c.args.lists.now c.args.newest.now.items c.args.store.now
    c.args.closed.now.items k)) in
    c.in_ok-bodies.ensures.spelled ∙ all_bytes_read rows c.args.new.now n c.args.tree.now
    c.spell_rows.new.lists c.args.newest.now.items using
