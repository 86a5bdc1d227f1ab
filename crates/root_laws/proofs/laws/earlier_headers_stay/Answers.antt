use Rattle.root_laws.proofs.Growing.{earlier_headers_stay}
use Rattle.root_laws.proofs.laws.earlier_headers_stay.Goals as goal

pub returns : goal.returns
returns c = earlier_headers_stay
