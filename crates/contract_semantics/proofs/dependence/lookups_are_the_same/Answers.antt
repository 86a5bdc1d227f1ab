use Rattle.contract_semantics.proofs.TheLaws.{lookups_are_the_same}
use Rattle.contract_semantics.proofs.dependence.lookups_are_the_same.Goals as goal

pub returns : goal.returns
returns c = lookups_are_the_same
