use Rattle.root_laws.proofs.Reaching.{reached_is_ancestor}
use Rattle.root_laws.proofs.ancestor_laws.reached_versions_are_ancestors.Goals as goal

pub returns : goal.returns
returns c = reached_is_ancestor
