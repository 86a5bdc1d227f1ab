use Rattle.cli_promises.proofs.Tellings.{told_line}
use Rattle.cli_append.proofs.telling.tell_line.Goals as goal

pub returns-clause-lines : goal.returns-clause-lines
returns-clause-lines g c next promise here = told_line next g.M.Clock.now g.M.Clock.disk
    g.M.Clock.told c.args.machine.now c.tell.new.self c.args.line.now promise c.tell.result here
    c.tell.ensures.disk c.tell.ensures.told
