use Rattle.contract_semantics.proofs.EndsWell.{failures_are_not_ok}
use Rattle.contract_semantics.proofs.versions.failures_are_not_ok.Goals as goal

pub returns : goal.returns
returns c = failures_are_not_ok
