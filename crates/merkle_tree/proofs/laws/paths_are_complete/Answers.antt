use Rattle.merkle_tree.proofs.Rules.{paths_have_their_length}
use Rattle.merkle_tree.proofs.TheLaws.{paths_are_complete}
use Rattle.merkle_tree.proofs.laws.paths_are_complete.Goals as goal

pub returns-clause-length : goal.returns-clause-length
returns-clause-length c = paths_have_their_length

pub returns-clause-complete : goal.returns-clause-complete
returns-clause-complete c = paths_are_complete
