use Rattle.root_laws.proofs.Spellings.{leaves_spelled}
use Rattle.root_laws.proofs.typed_laws.leaves_are_leaves.Goals as goal

pub returns : goal.returns
returns c = leaves_spelled
