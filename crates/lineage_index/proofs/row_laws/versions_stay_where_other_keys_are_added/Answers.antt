use Rattle.lineage_index.proofs.OtherKeys.{versions_stay}
use Rattle.lineage_index.proofs.row_laws.versions_stay_where_other_keys_are_added.Goals as goal

pub returns : goal.returns
returns c = versions_stay
