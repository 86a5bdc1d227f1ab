use Rattle.root_laws.proofs.Headers.{leaf_is_named}
use Rattle.root_laws.proofs.laws.leaves_name_headers.Goals as goal

pub returns : goal.returns
returns c = leaf_is_named
