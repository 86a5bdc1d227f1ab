use Rattle.root_laws.proofs.NextKeys.{next_is}
use Rattle.root_laws.proofs.laws.next_key_is_the_least_greater.Goals as goal

pub returns : goal.returns
returns c = next_is
