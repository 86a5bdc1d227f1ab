use Rattle.contract_semantics.proofs.TheLaws.{what_is_recorded_is_complete}
use Rattle.contract_semantics.proofs.dependence.what_is_recorded_is_complete.Goals as goal

pub returns : goal.returns
returns c = what_is_recorded_is_complete
