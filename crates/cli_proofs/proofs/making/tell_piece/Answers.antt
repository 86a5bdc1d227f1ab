use Rattle.std.proofs.Common.{refl}
use Rattle.cli_output.proofs.Plain.{plain_ok, plain_err}
use Rattle.cli_proofs.proofs.making.tell_piece.Goals as goal

pub returns-in-Ok-clause-lines : goal.returns-in-Ok-clause-lines
returns-in-Ok-clause-lines g c next = plain_ok g.M.Clock.now g.M.Clock.disk g.M.Clock.told next
    c.args.machine.now c.tell.new.self c.args.piece.now c.args.piece.now refl c.in-Ok.ensures.disk
    c.in-Ok.ensures.told

pub returns-in-Err-clause-lines : goal.returns-in-Err-clause-lines
returns-in-Err-clause-lines g c next = plain_err g.M.Clock.now g.M.Clock.disk g.M.Clock.told next
    c.args.machine.now c.tell.new.self c.args.piece.now c.args.piece.now refl c.in-Err.ensures.disk
    c.in-Err.ensures.told
