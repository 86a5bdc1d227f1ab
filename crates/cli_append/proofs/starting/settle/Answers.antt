use Rattle.std.proofs.Common.{subst}
use Rattle.disk_model.specs.Disk.{IsImage}
use Rattle.disk_model.proofs.Calls.{some_is, sync_keeps}
use Rattle.disk_model.proofs.Moments.{started}
use Rattle.cli_append.proofs.starting.settle.Goals as goal

pub returns-clause-images : goal.returns-clause-images
returns-clause-images g c state is =
    let begun = started g.M.Clock.now g.M.Clock.disk c.args.machine.now (IsImage state)
    (λ s image here left. subst (λ t. IsImage t image) (some_is _ _ _ is here) left) in
    sync_keeps g.M.Clock.now g.M.Clock.disk c.args.machine.now c.args.machine.now
    c.sync.new.self (IsImage state) state c.sync.result begun is c.sync.ensures.disk
    (g.met.M.Disk.sound c.args.machine.now (g.M.Clock.now c.args.machine.now) state is)
