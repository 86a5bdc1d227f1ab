use Rattle.chain_exec.proofs.TheLaws.{receipts_ignore_indexes}
use Rattle.chain_exec.proofs.laws.receipts_ignore_indexes.Goals as goal

pub returns : goal.returns
returns c = receipts_ignore_indexes
