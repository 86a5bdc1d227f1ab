use Rattle.disk_model.specs.Disk.{IsImage}
use Rattle.disk_model.proofs.Calls.{stay_keeps}
use Rattle.cli_append.proofs.upgrading.open_log.Goals as goal

pub returns-in-Ok-clause-images : goal.returns-in-Ok-clause-images
returns-in-Ok-clause-images g c state is =
    stay_keeps g.M.Clock.now g.M.Clock.disk c.args.machine.now c.settle.new.machine
    c.open.new.machine (IsImage state) (c.settle.ensures.images state is)
    c.open.ensures.machine.stays
