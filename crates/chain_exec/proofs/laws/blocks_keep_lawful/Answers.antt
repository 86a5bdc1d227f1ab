use Rattle.chain_exec.proofs.TheLaws.{blocks_keep_lawful, blocks_keep_order}
use Rattle.chain_exec.proofs.laws.blocks_keep_lawful.Goals as goal

pub returns-clause-lawful : goal.returns-clause-lawful
returns-clause-lawful c = blocks_keep_lawful

pub returns-clause-order : goal.returns-clause-order
returns-clause-order c = blocks_keep_order
