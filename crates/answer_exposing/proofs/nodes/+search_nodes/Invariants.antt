use Rattle.answer_exposing.proofs.nodes.+search_nodes.Given as goal

abbrev pub decreases-search_nodes : goal.decreases-search_nodes
decreases-search_nodes l = l.height
