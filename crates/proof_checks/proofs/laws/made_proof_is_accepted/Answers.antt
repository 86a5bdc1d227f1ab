use Rattle.proof_checks.proofs.MadeThere.{made_is_there}
use Rattle.proof_checks.proofs.laws.made_proof_is_accepted.Goals as goal

pub returns : goal.returns
returns c = made_is_there
