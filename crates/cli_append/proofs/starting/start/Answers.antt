use Rattle.std.proofs.Common.{◌≡◌, refl, sym, ap, subst}
use Rattle.std.specs.Prelude.{Option, Some, None}
use Rattle.std.specs.Option.{option_map}
use Rattle.lc_io.specs.Disk.{DiskState, Turns}
use Rattle.disk_model.specs.Disk.{IsImage, IsSettled, settled_disk}
use Rattle.disk_model.proofs.Calls.{stay_keeps}
use Rattle.disk_model.proofs.Moments.{stays_on}
use Rattle.cli_append.proofs.starting.start.Goals as goal

-- A disk with nothing pending is as it is after a sync.
settled_same : (state : Option DiskState) → IsSettled state
    → option_map (λ (s : DiskState). settled_disk s.content) state ≡ state
settled_same None rests = refl
settled_same (Some s) rests = ap Some (sym rests)

-- src/starting.rt:37:1
pub returns-in-Ok-clause-images : goal.returns-in-Ok-clause-images
returns-in-Ok-clause-images g c state is =
    stay_keeps g.M.Clock.now g.M.Clock.disk c.args.machine.now c.settle.new.machine
    c.start.new.machine (IsImage state) (c.settle.ensures.images state is)
    c.start.ensures.machine.stays

pub returns-in-Ok-clause-stays : goal.returns-in-Ok-clause-stays
returns-in-Ok-clause-stays g c rests =
    let before = g.M.Clock.disk c.args.machine.now (g.M.Clock.now c.args.machine.now) in
    stays_on g.M.Clock.now g.M.Clock.disk c.args.machine.now c.settle.new.machine
    c.start.new.machine
    (subst
    (Turns g.M.Clock.now g.M.Clock.disk c.args.machine.now c.settle.new.machine)
    (settled_same before rests) c.in-Ok.ensures.disk) c.start.ensures.machine.stays
