use Rattle.skip_links.proofs.scanning.+height_to.Given as goal

abbrev pub decreases-height_to : goal.decreases-height_to
decreases-height_to l = l.level
