use Rattle.contract_semantics.proofs.EndsWell.{reads_and_puts_are_complete}
use Rattle.contract_semantics.proofs.exchange.reads_and_puts_are_complete.Goals as goal

pub returns : goal.returns
returns c = reads_and_puts_are_complete
