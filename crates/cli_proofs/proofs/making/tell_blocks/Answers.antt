use Rattle.std.proofs.Common.{refl}
use Rattle.cli_output.proofs.cli_promises.Tellings.{none_told}
use Rattle.cli_proofs.proofs.making.tell_blocks.Goals as goal

pub returns-in-Err-clause-lines : goal.returns-in-Err-clause-lines
returns-in-Err-clause-lines g c next =
    none_told next g.M.Clock.now g.M.Clock.disk g.M.Clock.told _ _ _ refl
