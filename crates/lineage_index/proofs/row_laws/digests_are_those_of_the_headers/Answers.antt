use Rattle.std.proofs.Common.{[]}
use Rattle.lineage_index.proofs.StoreEntries.{digests_are}
use Rattle.lineage_index.proofs.row_laws.digests_are_those_of_the_headers.Goals as goal

pub returns : goal.returns
returns c = λ all rows. digests_are all [] rows
