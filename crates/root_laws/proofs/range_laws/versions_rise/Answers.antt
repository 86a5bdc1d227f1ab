use Rattle.root_laws.proofs.Ends.{rising}
use Rattle.root_laws.proofs.range_laws.versions_rise.Goals as goal

pub returns : goal.returns
returns c = rising
