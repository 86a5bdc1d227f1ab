use Rattle.root_laws.proofs.Reaching.{ancestors_few}
use Rattle.root_laws.proofs.ancestor_laws.ancestors_are_few.Goals as goal

pub returns : goal.returns
returns c = ancestors_few
