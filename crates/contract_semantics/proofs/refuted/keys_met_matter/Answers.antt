use Rattle.contract_semantics.proofs.False.{keys_met_matter}
use Rattle.contract_semantics.proofs.refuted.keys_met_matter.Goals as goal

pub returns : goal.returns
returns c = keys_met_matter
