use Rattle.entry_views.proofs.Bodies.{body_back}
use Rattle.entry_views.proofs.body_laws.bodies_are_read_back.Goals as goal

pub returns : goal.returns
returns c = body_back
