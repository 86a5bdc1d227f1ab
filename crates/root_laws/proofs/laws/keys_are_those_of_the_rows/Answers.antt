use Rattle.root_laws.proofs.Keys.{among_is_some}
use Rattle.root_laws.proofs.laws.keys_are_those_of_the_rows.Goals as goal

pub returns : goal.returns
returns c = among_is_some
