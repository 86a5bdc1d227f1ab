use Rattle.root_laws.proofs.Growing.{earlier_versions_stay}
use Rattle.root_laws.proofs.laws.earlier_versions_stay_named.Goals as goal

pub returns : goal.returns
returns c = earlier_versions_stay
