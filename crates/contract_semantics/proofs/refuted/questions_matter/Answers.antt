use Rattle.contract_semantics.proofs.False.{questions_matter}
use Rattle.contract_semantics.proofs.refuted.questions_matter.Goals as goal

pub returns : goal.returns
returns c = questions_matter
