use Rattle.root_laws.proofs.FewAncestorSteps.{few_steps}
use Rattle.root_laws.proofs.ancestor_laws.trace_steps_are_few.Goals as goal

pub returns : goal.returns
returns c = few_steps
