use Rattle.std.proofs.Common.{refl}
use Rattle.std.specs.Prelude.{codes}
use Rattle.cli_proofs.proofs.Checked.{silent_says, found_says, if_ended, bad_may_end}
use Rattle.cli_proofs.proofs.Read.{read_says, none_says, read_left, none_left}
use Rattle.cli_proofs.proofs.checking.light.Goals as goal

pub returns-in-Ok-clause-says : goal.returns-in-Ok-clause-says
returns-in-Ok-clause-says g c input is next =
    read_says g.M.Clock.now g.M.Clock.disk g.M.Clock.told next c.args.machine.now
    c.check_proofs.new.machine input c.in-Ok.file _ _ c.check_proofs.result is c.in-Ok.ensures.answer
    (λ rest left. c.check_proofs.ensures.says rest left next)

pub returns-in-Ok-clause-leaves : goal.returns-in-Ok-clause-leaves
returns-in-Ok-clause-leaves g c input is = read_left input c.in-Ok.file _ _ _ c.check_proofs.result
    is c.in-Ok.ensures.answer c.check_proofs.ensures.leaves

pub returns-in-Err-Form-clause-says : goal.returns-in-Err-Form-clause-says
returns-in-Err-Form-clause-says g c input is next =
    none_says g.M.Clock.now g.M.Clock.disk g.M.Clock.told next c.args.machine.now c.tell.new.machine
    input _ _ c.tell.result is (rw c.in-Err-Form.field-0-is at c.in-Err-Form.ensures.answer)
    (found_says g.M.Clock.now g.M.Clock.disk g.M.Clock.told next c.args.machine.now
    c.tell.new.machine c.no_file.result _ c.tell.result c.no_file.ensures.outcome
    (c.tell.ensures.tells next))

pub returns-in-Err-Form-clause-leaves : goal.returns-in-Err-Form-clause-leaves
returns-in-Err-Form-clause-leaves g c input is = if_ended c.tell.result
    (none_left input _ _ is (rw c.in-Err-Form.field-0-is at c.in-Err-Form.ensures.answer))

pub returns-in-Err-Form-clause-ends : goal.returns-in-Err-Form-clause-ends
returns-in-Err-Form-clause-ends g c = c.tell.ensures.ends _
    (bad_may_end c.no_file.result (codes "light") c.no_file.ensures.outcome c.no_file.ensures.stop)

pub returns-in-Err-Fault-clause-says : goal.returns-in-Err-Fault-clause-says
returns-in-Err-Fault-clause-says g c input is next = silent_says g.M.Clock.now g.M.Clock.disk
    g.M.Clock.told next c.args.machine.now c.args.machine.now _ _ refl

pub returns-in-Err-Memory-clause-says : goal.returns-in-Err-Memory-clause-says
returns-in-Err-Memory-clause-says g c input is next = silent_says g.M.Clock.now g.M.Clock.disk
    g.M.Clock.told next c.args.machine.now c.args.machine.now _ _ refl
