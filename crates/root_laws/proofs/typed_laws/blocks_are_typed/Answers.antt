use Rattle.root_laws.proofs.Parts.{blocks_typed}
use Rattle.root_laws.proofs.typed_laws.blocks_are_typed.Goals as goal

pub returns : goal.returns
returns c = blocks_typed
