use Rattle.std.proofs.Common.{◌∙◌, ap, map}
use Rattle.forward_links.specs.Lists.{open_of}
use Rattle.lineage_index.proofs.KeyLists.{lists_within}
use Rattle.lineage_index.proofs.NewEntries.{list_known}
use Rattle.lineage_index.proofs.new_entries.closed_by.Goals as goal

pub peek-requires : goal.peek-requires
peek-requires c =
    let given = c.requires in
    lists_within c.args.tree.now c.args.lists.now given.0 given.1 c.args.key.now c.in-Some.index
    given.2
    (c.in-Some.ensures.place given.0 given.2.entry given.2.leaves_are)

pub returns-in-Some : goal.returns-in-Some
returns-in-Some c keys list a =
    c.peek.ensures.uses (map list keys) a.lists_are
    ∙ ap open_of (list_known c.args.tree.now c.args.lists.now keys list c.args.key.now
    c.in-Some.index a
    (c.in-Some.ensures.place keys a.entry a.leaves_are))
