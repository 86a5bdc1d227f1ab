use Rattle.root_laws.proofs.NextKeys.{next_with}
use Rattle.root_laws.proofs.laws.new_key_is_threaded.Goals as goal

pub returns : goal.returns
returns c = next_with
