use Rattle.proof_checks.proofs.MadeOnce.{made_is_unique}
use Rattle.proof_checks.proofs.laws.made_proofs_are_unique.Goals as goal

pub returns : goal.returns
returns c = made_is_unique
