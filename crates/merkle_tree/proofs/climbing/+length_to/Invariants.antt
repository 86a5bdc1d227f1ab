use Rattle.merkle_tree.proofs.climbing.+length_to.Given as goal

abbrev pub decreases-length_to : goal.decreases-length_to
decreases-length_to l = l.height
