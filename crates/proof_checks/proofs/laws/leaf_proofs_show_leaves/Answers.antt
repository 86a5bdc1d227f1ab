use Rattle.proof_checks.proofs.LeafTold.{shows_leaf}
use Rattle.proof_checks.proofs.laws.leaf_proofs_show_leaves.Goals as goal

pub returns : goal.returns
returns c = shows_leaf
