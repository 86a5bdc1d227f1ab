use Rattle.root_laws.proofs.UpToBlock.{earlier_roots_stay}
use Rattle.root_laws.proofs.laws.earlier_roots_stay.Goals as goal

pub returns : goal.returns
returns c = earlier_roots_stay
