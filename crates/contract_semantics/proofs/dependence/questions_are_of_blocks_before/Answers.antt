use Rattle.contract_semantics.proofs.EndsWell.{questions_are_of_blocks_before}
use Rattle.contract_semantics.proofs.dependence.questions_are_of_blocks_before.Goals as goal

pub returns : goal.returns
returns c = questions_are_of_blocks_before
