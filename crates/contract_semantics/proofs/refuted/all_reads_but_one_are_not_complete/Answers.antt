use Rattle.contract_semantics.proofs.False.{all_reads_but_one_are_not_complete}
use Rattle.contract_semantics.proofs.refuted.all_reads_but_one_are_not_complete.Goals as goal

pub returns : goal.returns
returns c = all_reads_but_one_are_not_complete
