use Rattle.std.proofs.Common.{refl}
use Rattle.cli_promises.proofs.Tellings.{none_told}
use Rattle.cli_output.proofs.telling.tell_usage.Goals as goal

pub returns-clause-lines : goal.returns-clause-lines
returns-clause-lines g c next = none_told next g.M.Clock.now g.M.Clock.disk g.M.Clock.told _ _ _ refl
