use Rattle.root_laws.proofs.Reaching.{ancestors_in_order}
use Rattle.root_laws.proofs.ancestor_laws.ancestors_rise.Goals as goal

pub returns : goal.returns
returns c = ancestors_in_order
