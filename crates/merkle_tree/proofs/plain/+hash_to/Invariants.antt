use Rattle.merkle_tree.proofs.plain.+hash_to.Given as goal

abbrev pub decreases-hash_to : goal.decreases-hash_to
decreases-hash_to g l = l.height
