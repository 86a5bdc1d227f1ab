use Rattle.root_laws.proofs.Spellings.{bodies_spelled}
use Rattle.root_laws.proofs.typed_laws.bodies_are_bodies.Goals as goal

pub returns : goal.returns
returns c = bodies_spelled
