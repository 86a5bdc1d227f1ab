use Rattle.lineage_index.proofs.StoreEntries.{earlier_entries}
use Rattle.lineage_index.proofs.row_laws.earlier_entries_are_of_the_earlier_history.Goals as goal

pub returns : goal.returns
returns c = earlier_entries
