use Rattle.proof_checks.proofs.Told.{named_body}
use Rattle.proof_checks.proofs.laws.named_bodies_are_of_rows.Goals as goal

pub returns : goal.returns
returns c = named_body
