use Rattle.root_laws.proofs.ClosedLists.{closed_up_to}
use Rattle.root_laws.proofs.laws.closed_lists_are_of_the_history.Goals as goal

pub returns : goal.returns
returns c = closed_up_to
