use Rattle.lineage_index.proofs.Earlier.{first_towered}
use Rattle.lineage_index.proofs.row_laws.earlier_versions_are_towered.Goals as goal

pub returns : goal.returns
returns c = first_towered
