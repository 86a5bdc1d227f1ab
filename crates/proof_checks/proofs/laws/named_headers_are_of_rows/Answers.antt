use Rattle.proof_checks.proofs.Told.{named_header}
use Rattle.proof_checks.proofs.laws.named_headers_are_of_rows.Goals as goal

pub returns : goal.returns
returns c = named_header
