use Rattle.root_laws.proofs.Keys.{keys_append}
use Rattle.root_laws.proofs.laws.earlier_keys_stand_first.Goals as goal

pub returns : goal.returns
returns c = keys_append
