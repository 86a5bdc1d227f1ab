use Rattle.proof_checks.proofs.RangeMadeSpelled.{made_range_is_proof}
use Rattle.proof_checks.proofs.range_laws.made_ranges_are_proofs.Goals as goal

pub returns : goal.returns
returns c = made_range_is_proof
