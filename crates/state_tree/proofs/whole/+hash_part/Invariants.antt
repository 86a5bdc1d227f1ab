use Rattle.state_tree.proofs.whole.+hash_part.Given as goal

abbrev pub decreases-hash_part : goal.decreases-hash_part
decreases-hash_part g l = l.height
