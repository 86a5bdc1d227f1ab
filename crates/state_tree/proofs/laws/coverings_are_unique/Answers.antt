use Rattle.state_tree.proofs.Covered.{coverings_are_unique}
use Rattle.state_tree.proofs.laws.coverings_are_unique.Goals as goal

pub returns : goal.returns
returns c = coverings_are_unique
