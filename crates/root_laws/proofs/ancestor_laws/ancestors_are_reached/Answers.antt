use Rattle.root_laws.proofs.Reaching.{each_is_reached}
use Rattle.root_laws.proofs.ancestor_laws.ancestors_are_reached.Goals as goal

pub returns : goal.returns
returns c = each_is_reached
