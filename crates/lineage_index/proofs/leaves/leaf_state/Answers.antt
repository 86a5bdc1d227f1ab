use Rattle.std.proofs.Common.{map}
use Rattle.plain_rows.specs.root_laws.Root.{keys_of}
use Rattle.lineage_index.specs.Heads.{open_list}
use Rattle.lineage_index.proofs.Renewed.{row_within, state_told}
use Rattle.lineage_index.proofs.leaves.leaf_state.Goals as goal

pub facts-facts-requires : goal.facts-facts-requires
facts-facts-requires c =
    let given = c.requires in
    row_within given.0 c.args.lists.now c.args.newest.now c.args.store.now c.args.index c.newest_at.result given.1 given.2 c.newest_at.ensures

pub returns : goal.returns
returns c rows kept within =
    state_told rows c.args.lists.now c.args.newest.now c.args.store.now c.args.index
    c.newest_at.result c.facts-facts.result c.peek-kept.result kept within c.newest_at.ensures
    c.facts-facts.ensures
    (c.peek-kept.ensures.uses (map (open_list rows) (keys_of rows)) kept.lists_are)
