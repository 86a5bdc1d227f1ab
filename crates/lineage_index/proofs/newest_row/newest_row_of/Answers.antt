use Rattle.plain_rows.specs.root_laws.Root.{keys_of}
use Rattle.lineage_index.proofs.NewestRows.{newest_known, newest_unknown, newest_within}
use Rattle.lineage_index.proofs.newest_row.newest_row_of.Goals as goal

pub newest_at-requires : goal.newest_at-requires
newest_at-requires c =
    let given = c.requires in
    newest_within given.0 c.args.tree.now c.args.newest.now c.args.key.now c.in-Some.index given.1 (c.in-Some.ensures.place (keys_of given.0) given.1.entry given.1.leaves_are)

pub returns-in-None : goal.returns-in-None
returns-in-None c rows a = newest_unknown rows c.args.key.now (c.in-None.ensures.place (keys_of rows) a.entry a.leaves_are)

pub returns-in-Some : goal.returns-in-Some
returns-in-Some c rows a =
    newest_known rows c.args.tree.now c.args.newest.now c.args.key.now c.in-Some.index c.newest_at.result a (c.in-Some.ensures.place (keys_of rows) a.entry a.leaves_are) c.newest_at.ensures
