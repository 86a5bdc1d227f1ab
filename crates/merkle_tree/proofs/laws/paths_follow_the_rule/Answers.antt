use Rattle.merkle_tree.proofs.Rules.{paths_in_the_first_part, paths_in_the_rest, lengths_in_the_first_part, lengths_in_the_rest}
use Rattle.merkle_tree.proofs.TheLaws.{path_of_one, length_of_one}
use Rattle.merkle_tree.proofs.laws.paths_follow_the_rule.Goals as goal

pub returns-clause-one : goal.returns-clause-one
returns-clause-one c = path_of_one

pub returns-clause-first_part : goal.returns-clause-first_part
returns-clause-first_part c = paths_in_the_first_part

pub returns-clause-rest : goal.returns-clause-rest
returns-clause-rest c = paths_in_the_rest

pub returns-clause-length_of_one : goal.returns-clause-length_of_one
returns-clause-length_of_one c = length_of_one

pub returns-clause-length_in_the_first_part : goal.returns-clause-length_in_the_first_part
returns-clause-length_in_the_first_part c = lengths_in_the_first_part

pub returns-clause-length_in_the_rest : goal.returns-clause-length_in_the_rest
returns-clause-length_in_the_rest c = lengths_in_the_rest
