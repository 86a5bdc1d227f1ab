use Rattle.root_laws.proofs.Growing.{block_is_named}
use Rattle.root_laws.proofs.laws.versions_of_a_block_are_named.Goals as goal

pub returns : goal.returns
returns c = block_is_named
