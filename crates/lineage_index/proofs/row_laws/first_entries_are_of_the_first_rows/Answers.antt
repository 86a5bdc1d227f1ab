use Rattle.lineage_index.proofs.StoreEntries.{front_entries}
use Rattle.lineage_index.proofs.row_laws.first_entries_are_of_the_first_rows.Goals as goal

pub returns : goal.returns
returns c = front_entries
