use Rattle.merkle_tree.proofs.climbing.+climb_to.Given as goal

abbrev pub decreases-climb_to : goal.decreases-climb_to
decreases-climb_to l = l.height
