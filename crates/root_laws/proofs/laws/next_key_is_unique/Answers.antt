use Rattle.root_laws.proofs.NextKeys.{next_unique}
use Rattle.root_laws.proofs.laws.next_key_is_unique.Goals as goal

pub returns : goal.returns
returns c = next_unique
