use Rattle.std.proofs.Common.{◌∙◌, sym}
use Rattle.lineage_index.proofs.NewestRows.{entry_known, entry_unknown}
use Rattle.lineage_index.proofs.newest_row.newest_entry_of.Goals as goal

pub returns-in-None : goal.returns-in-None
returns-in-None c rows a = entry_unknown rows c.args.key.now (sym (c.newest_row_of.ensures rows a) ∙ c.in-None.is)

pub returns-in-Some : goal.returns-in-Some
returns-in-Some c rows a = entry_known rows c.args.key.now c.in-Some.index (sym (c.newest_row_of.ensures rows a) ∙ c.in-Some.is)
