use Rattle.root_laws.proofs.Parts.{parts_typed}
use Rattle.root_laws.proofs.typed_laws.parts_are_typed.Goals as goal

pub returns : goal.returns
returns c = parts_typed
