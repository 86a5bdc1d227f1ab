use Rattle.std.proofs.Common.{◌++◌, ◌∷◌, [], ◌∙◌, ap}
use Rattle.std.proofs.lemmas.List.{append_assoc}
use Rattle.plain_rows.specs.root_laws.Root.{keys_of}
use Rattle.lineage_index.specs.Entries.{entries_of}
use Rattle.lineage_index.specs.Growth.{entry_of, open_uses}
use Rattle.lineage_index.specs.NewEntries.{states_with_uses}
use Rattle.lineage_index.proofs.KeptStates.{lists_of_heads}
use Rattle.lineage_index.proofs.NewEntries.{next_version}
use Rattle.lineage_index.proofs.new_entries.add_entry.Goals as goal

pub new_version-version-requires : goal.new_version-version-requires
new_version-version-requires c =
    let given = c.requires.next in
    (keys_of given.0, open_uses given.0 given.1, lists_of_heads c.args.tree.now c.args.lists.now c.args.newest.now (states_with_uses given.0 given.1) given.4.heads)

pub newest_entry_of-previous-requires : goal.newest_entry_of-previous-requires
newest_entry_of-previous-requires c =
    let given = c.requires.next in
    (given.0, record { entry = entry_of given.0; leaves_are = given.4.heads.leaves_are; newest_are = given.4.heads.newest_are })

pub push_version-requires : goal.push_version-requires
push_version-requires c =
    let given = c.requires.next in
    let rows = given.0 in
    let new = given.1 in
    let lists = lists_of_heads c.args.tree.now c.args.lists.now c.args.newest.now (states_with_uses rows new) given.4.heads in (
      rows ++ new,
      rows ++ given.2,
      c.args.row.now,
      next_version rows new given.2 given.3 c.args.tree.now c.args.lists.now c.args.newest.now c.args.row.now c.args.store.now c.newest_entry_of-previous.result c.new_version-version.result c.args.body.now given.4 given.5
          (c.new_version-version.ensures (keys_of rows) (open_uses rows new) lists)
          c.requires.body
          (c.newest_entry_of-previous.ensures rows (record { entry = entry_of rows; leaves_are = given.4.heads.leaves_are; newest_are = given.4.heads.newest_are })),
    )

pub returns : goal.returns
returns c rows new done n a next =
    let row = c.args.row.now in
    let lists = lists_of_heads c.args.tree.now c.args.lists.now c.args.newest.now (states_with_uses rows new) a.heads in
    c.in_ok-push_version.ensures.ok (rows ++ new) (rows ++ done) row
    (next_version rows new done n c.args.tree.now c.args.lists.now c.args.newest.now row c.args.store.now c.newest_entry_of-previous.result c.new_version-version.result c.args.body.now a next
    (c.new_version-version.ensures (keys_of rows) (open_uses rows new) lists)
    c.requires.body
    (c.newest_entry_of-previous.ensures rows (record { entry = entry_of rows; leaves_are = a.heads.leaves_are; newest_are = a.heads.newest_are })))
    ∙ ap (entries_of (rows ++ new)) (append_assoc rows done (row ∷ []))
