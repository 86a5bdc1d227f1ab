use Rattle.proof_checks.proofs.RangeMade.{made_range_is_accepted}
use Rattle.proof_checks.proofs.range_laws.made_ranges_are_accepted.Goals as goal

pub returns : goal.returns
returns c = made_range_is_accepted
