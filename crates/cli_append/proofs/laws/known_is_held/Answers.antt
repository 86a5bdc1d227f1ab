use Rattle.cli_append.proofs.KnownHeld.{known_held}
use Rattle.cli_append.proofs.laws.known_is_held.Goals as goal

pub returns : goal.returns
returns c = known_held
