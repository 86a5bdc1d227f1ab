use Rattle.lineage_index.proofs.ReadBack.{rows_back}
use Rattle.lineage_index.proofs.row_laws.rows_are_read_back.Goals as goal

pub returns : goal.returns
returns c = rows_back
