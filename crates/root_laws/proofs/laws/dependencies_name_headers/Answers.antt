use Rattle.root_laws.proofs.Headers.{dependencies_are_named}
use Rattle.root_laws.proofs.laws.dependencies_name_headers.Goals as goal

pub returns : goal.returns
returns c = dependencies_are_named
