use Rattle.root_laws.proofs.Headers.{links_are_named}
use Rattle.root_laws.proofs.laws.links_name_headers.Goals as goal

pub returns : goal.returns
returns c = links_are_named
