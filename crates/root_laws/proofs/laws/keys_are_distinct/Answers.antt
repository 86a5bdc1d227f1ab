use Rattle.root_laws.proofs.Keys.{keys_distinct}
use Rattle.root_laws.proofs.laws.keys_are_distinct.Goals as goal

pub returns : goal.returns
returns c = keys_distinct
