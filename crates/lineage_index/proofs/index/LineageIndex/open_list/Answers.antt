use Rattle.std.proofs.Common.{map}
use Rattle.plain_rows.specs.root_laws.Root.{keys_of}
use Rattle.lineage_index.specs.Growth.{entry_of}
use Rattle.lineage_index.specs.Heads.{open_list}
use Rattle.lineage_index.proofs.Listed.{not_listed, open_listed}
use Rattle.lineage_index.proofs.index.LineageIndex.open_list.Goals as goal

pub returns-in-None : goal.returns-in-None
returns-in-None c rows n is =
    not_listed rows c.args.key.now (c.in-None.ensures.place (keys_of rows)
    (entry_of rows) is.heads.leaves_are)

pub returns-in-Some : goal.returns-in-Some
returns-in-Some c rows n is =
    open_listed rows c.args.key.now c.in-Some.index c.list.result.now
    (c.in-Some.ensures.place (keys_of rows) (entry_of rows) is.heads.leaves_are)
    (c.list.ensures.uses (map (open_list rows) (keys_of rows)) is.heads.lists_are)
