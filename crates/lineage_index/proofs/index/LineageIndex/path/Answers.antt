use Rattle.lineage_index.proofs.index.LineageIndex.path.Goals as goal

pub entries_on_path-requires : goal.entries_on_path-requires
entries_on_path-requires g c =
    let given = c.requires in
    (given.0, c.args.key.now, c.newest_entry.ensures given.0 given.1 given.2)

pub returns-clause-path : goal.returns-clause-path
returns-clause-path g c rows n is = c.entries_on_path.ensures.path rows c.args.key.now (c.newest_entry.ensures rows n is)
