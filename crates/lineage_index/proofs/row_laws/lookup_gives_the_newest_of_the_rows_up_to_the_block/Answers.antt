use Rattle.lineage_index.proofs.Earlier.{finds_newest}
use Rattle.lineage_index.proofs.row_laws.lookup_gives_the_newest_of_the_rows_up_to_the_block.Goals as goal

pub returns : goal.returns
returns c = finds_newest
