use Rattle.std.proofs.Common.{◌∙◌}
use Rattle.lineage_index.specs.Growth.{entry_of}
use Rattle.lineage_index.proofs.NewestRows.{newest_of}
use Rattle.lineage_index.proofs.index.LineageIndex.newest_entry.Goals as goal

pub returns : goal.returns
returns c rows n is =
    newest_of rows c.args.key.now c.newest_entry_of.result c.args.self.now.store is.store
    (c.newest_entry_of.ensures rows (record { entry = entry_of rows; leaves_are = is.heads.leaves_are; newest_are = c.as_slice.ensures.value ∙ is.heads.newest_are }))
