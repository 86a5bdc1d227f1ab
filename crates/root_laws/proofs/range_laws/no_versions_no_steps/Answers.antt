use Rattle.root_laws.proofs.FewRangeSteps.{no_steps}
use Rattle.root_laws.proofs.range_laws.no_versions_no_steps.Goals as goal

pub returns : goal.returns
returns c = no_steps
