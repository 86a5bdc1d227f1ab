use Rattle.root_laws.proofs.Walking.{header_walk}
use Rattle.root_laws.proofs.laws.header_walks_are_sound.Goals as goal

pub returns : goal.returns
returns c = header_walk
