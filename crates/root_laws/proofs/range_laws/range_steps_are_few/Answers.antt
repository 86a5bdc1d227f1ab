use Rattle.root_laws.proofs.FewRangeSteps.{few_steps}
use Rattle.root_laws.proofs.range_laws.range_steps_are_few.Goals as goal

pub returns : goal.returns
returns c = few_steps
