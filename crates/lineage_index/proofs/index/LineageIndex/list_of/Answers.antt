use Rattle.std.proofs.Common.{map}
use Rattle.std.proofs.lemmas.Bool.{ne_eqb}
use Rattle.std.proofs.lemmas.Option.{slice_get_within}
use Rattle.plain_rows.specs.root_laws.Root.{keys_of}
use Rattle.lineage_index.specs.Growth.{entry_of}
use Rattle.lineage_index.specs.Heads.{open_list}
use Rattle.lineage_index.proofs.BlockSteps.{newest_kept}
use Rattle.lineage_index.proofs.Listed.{closed_of_row, open_listed, open_of_row, row_listed}
use Rattle.lineage_index.proofs.NewestRows.{newest_known}
use Rattle.lineage_index.proofs.index.LineageIndex.list_of.Goals as goal

pub unreachable-requires : goal.unreachable-requires
unreachable-requires c =
    let given = c.requires in
    row_listed given.0 given.2 c.args.index c.args.key.now given.4 given.5
    (c.in-None.ensures.place (keys_of given.0) (entry_of given.0) given.3.heads.leaves_are)

pub closed_list-requires : goal.closed_list-requires
closed_list-requires c =
    let given = c.requires in
    (given.0, given.1, given.3, slice_get_within given.0 c.args.index given.2 given.4)

pub returns-then-newest_at-index : goal.returns-then-newest_at-index
returns-then-newest_at-index c rows n row is at same =
    let place = c.in-Some.ensures.place (keys_of rows) (entry_of rows) is.heads.leaves_are in
    let last = newest_known rows c.args.self.now.tree c.as_slice.result.now c.args.key.now
    c.in-Some.at c.newest_at.result
    (newest_kept rows n c.args.self.now.tree c.args.self.now.lists c.args.self.now.newest.items
    c.as_slice.result.now
    c.args.self.now.store c.args.self.now.closed.items is c.as_slice.ensures.value) place
    c.newest_at.ensures in
    open_of_row rows row c.args.index c.newest_at.result c.args.key.now c.list.result.now at same
    last c.if-newest_at-index.true
    (open_listed rows c.args.key.now c.in-Some.at c.list.result.now place
    (c.list.ensures.uses (map (open_list rows) (keys_of rows)) is.heads.lists_are))

pub returns-else-newest_at-index : goal.returns-else-newest_at-index
returns-else-newest_at-index c rows n row is at same =
    let place = c.in-Some.ensures.place (keys_of rows) (entry_of rows) is.heads.leaves_are in
    let last = newest_known rows c.args.self.now.tree c.as_slice.result.now c.args.key.now
    c.in-Some.at c.newest_at.result
    (newest_kept rows n c.args.self.now.tree c.args.self.now.lists c.args.self.now.newest.items
    c.as_slice.result.now
    c.args.self.now.store c.args.self.now.closed.items is c.as_slice.ensures.value) place
    c.newest_at.ensures in
    closed_of_row rows row c.args.index c.newest_at.result c.args.key.now c.closed_list.result.now
    same last
    (ne_eqb c.newest_at.result c.args.index c.if-newest_at-index.false)
    (c.closed_list.ensures rows n row is at)
