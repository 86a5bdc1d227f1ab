use Rattle.contract_semantics.proofs.TheLaws.{histories_with_the_same_reads_give_the_same}
use Rattle.contract_semantics.proofs.dependence.histories_with_the_same_reads_give_the_same.Goals as goal

pub returns : goal.returns
returns c = histories_with_the_same_reads_give_the_same
