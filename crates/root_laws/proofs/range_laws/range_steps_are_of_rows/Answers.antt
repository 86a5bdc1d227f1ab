use Rattle.root_laws.proofs.FewRangeSteps.{steps_of_rows}
use Rattle.root_laws.proofs.range_laws.range_steps_are_of_rows.Goals as goal

pub returns : goal.returns
returns c = steps_of_rows
