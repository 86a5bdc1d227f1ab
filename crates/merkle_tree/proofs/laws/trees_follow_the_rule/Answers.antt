use Rattle.merkle_tree.proofs.Rules.{trees_are_split}
use Rattle.merkle_tree.proofs.TheLaws.{tree_of_none, tree_of_one}
use Rattle.merkle_tree.proofs.laws.trees_follow_the_rule.Goals as goal

pub returns-clause-none : goal.returns-clause-none
returns-clause-none c = tree_of_none

pub returns-clause-one : goal.returns-clause-one
returns-clause-one c = tree_of_one

pub returns-clause-more : goal.returns-clause-more
returns-clause-more c = trees_are_split
