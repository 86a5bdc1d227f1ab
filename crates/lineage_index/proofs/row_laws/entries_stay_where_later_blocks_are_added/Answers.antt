use Rattle.lineage_index.proofs.StoreEntries.{entries_stay}
use Rattle.lineage_index.proofs.row_laws.entries_stay_where_later_blocks_are_added.Goals as goal

pub returns : goal.returns
returns c = entries_stay
