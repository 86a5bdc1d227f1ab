use Rattle.root_laws.proofs.Ends.{may_be_empty}
use Rattle.root_laws.proofs.range_laws.ranges_may_be_empty.Goals as goal

pub returns : goal.returns
returns c = may_be_empty
