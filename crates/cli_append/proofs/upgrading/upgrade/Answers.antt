use Rattle.std.proofs.Common.{sym, ap, ◌∙◌}
use Rattle.disk_model.proofs.Calls.{stay_keeps}
use Rattle.block_log.specs.Log.{IsOldOrMarked, log_placement, next_in_log}
use Rattle.cli_promises.specs.recovery.Node.{next_in_chain}
use Rattle.cli_promises.specs.cli_lines.Lines.{upgraded_line}
use Rattle.cli_promises.specs.declared.ending.RunStop.TheVariants as stops
use Rattle.cli_append.proofs.Upgraded.{already_marked, disk_blamed, disk_unblamed}
use Rattle.cli_append.proofs.Upgraded.{images_known, log_at, log_stays, log_still}
use Rattle.cli_append.proofs.Upgraded.{marked_at, no_disk_fault, none_blamed, not_begun}
use Rattle.cli_append.proofs.Upgraded.{not_marked, stands_by_log, then_marked}
use Rattle.cli_append.proofs.upgrading.upgrade.Goals as goal

-- ---- a log that is marked already

pub returns-in-Ok-clause-upgrades : goal.returns-in-Ok-clause-upgrades
returns-in-Ok-clause-upgrades g c logged is =
    already_marked g.M.Clock.now g.M.Clock.disk g.M.Clock.told c.args.machine.now
    c.tell_marked.new.machine logged c.in-Ok.line c.tell_marked.result
    (sym is.marked_is ∙ sym c.marked.ensures ∙ c.if-marked.true)
    (log_at c.args.log
    (g.M.Clock.disk c.args.machine.now (g.M.Clock.now c.args.machine.now)) logged is)
    c.tell_marked.ensures.disk.stays c.in-Ok.ensures (c.tell_marked.ensures.lines next_in_chain)

pub returns-in-Ok-clause-log_images : goal.returns-in-Ok-clause-log_images
returns-in-Ok-clause-log_images g c content logged told stands = log_stays g.M.Clock.now
    g.M.Clock.disk c.args.machine.now
    c.tell_marked.new.machine c.args.log content logged c.requires.agrees told stands
    c.tell_marked.ensures.disk.stays

pub returns-in-Ok-clause-disk_fault : goal.returns-in-Ok-clause-disk_fault
returns-in-Ok-clause-disk_fault g c = none_blamed _ _ _ c.tell_marked.ensures.disk.faults
    (no_disk_fault c.tell_marked.result c.tell_marked.ensures.stop)

pub returns-in-Err-clause-upgrades : goal.returns-in-Err-clause-upgrades
returns-in-Err-clause-upgrades g c logged is = not_begun g.M.Clock.now g.M.Clock.disk g.M.Clock.told
    c.args.machine.now logged stops.Memory
    (log_at c.args.log
    (g.M.Clock.disk c.args.machine.now (g.M.Clock.now c.args.machine.now)) logged is)

pub returns-in-Err-clause-log_images : goal.returns-in-Err-clause-log_images
returns-in-Err-clause-log_images g c content logged told stands = log_still g.M.Clock.now
    g.M.Clock.disk c.args.machine.now
    c.args.log content logged c.requires.agrees told stands

-- ---- a log that is marked now

pub returns-in-Ok-mark-clause-upgrades : goal.returns-in-Ok-mark-clause-upgrades
returns-in-Ok-mark-clause-upgrades g c logged is =
    then_marked g.M.Clock.now g.M.Clock.disk g.M.Clock.told c.args.machine.now c.mark.new.machine
    c.tell_marked-in-Ok-mark.new.machine logged c.in-Ok-upgraded_line.line
    c.tell_marked-in-Ok-mark.result (sym is.marked_is ∙ sym c.marked.ensures ∙ c.if-marked.false)
    (images_known g.M.Clock.now g.M.Clock.disk c.args.machine.now c.mark.new.machine c.args.log
    logged is c.mark.ensures.images)
    (marked_at c.args.log
    (g.M.Clock.disk c.args.machine.now (g.M.Clock.now c.args.machine.now))
    (g.M.Clock.disk c.mark.new.machine (g.M.Clock.now c.mark.new.machine)) logged is
    c.in-Ok-mark.ensures.still_known c.in-Ok-mark.ensures.stands)
    c.mark.ensures.wire.told c.tell_marked-in-Ok-mark.ensures.disk.stays
    (c.in-Ok-upgraded_line.ensures ∙ ap upgraded_line (c.blocks-2.ensures ∙ is.count_is))
    (c.tell_marked-in-Ok-mark.ensures.lines next_in_chain)

pub returns-in-Ok-mark-clause-log_images : goal.returns-in-Ok-mark-clause-log_images
returns-in-Ok-mark-clause-log_images g c content logged told stands = stay_keeps g.M.Clock.now
    g.M.Clock.disk c.args.machine.now
    c.mark.new.machine c.tell_marked-in-Ok-mark.new.machine (IsOldOrMarked next_in_log logged)
    (c.mark.ensures.images log_placement content logged told (stands_by_log content logged
    stands))
    c.tell_marked-in-Ok-mark.ensures.disk.stays

pub returns-in-Ok-mark-clause-disk_fault : goal.returns-in-Ok-mark-clause-disk_fault
returns-in-Ok-mark-clause-disk_fault g c = none_blamed _ _ _
    (c.tell_marked-in-Ok-mark.ensures.disk.faults ∙ disk_unblamed _ _
    c.in-Ok-mark.ensures.cause)
    (no_disk_fault c.tell_marked-in-Ok-mark.result c.tell_marked-in-Ok-mark.ensures.stop)

-- ---- a disk that failed

pub returns-in-Ok-upgraded_line-clause-upgrades : goal.returns-in-Ok-upgraded_line-clause-upgrades
returns-in-Ok-upgraded_line-clause-upgrades g c logged is = not_marked g.M.Clock.now g.M.Clock.disk
    g.M.Clock.told c.args.machine.now c.mark.new.machine logged stops.DiskFault
    (images_known g.M.Clock.now g.M.Clock.disk c.args.machine.now c.mark.new.machine c.args.log
    logged is c.mark.ensures.images)
    (λ mark. absurd (cc (mark, sym is.marked_is ∙ sym c.marked.ensures ∙ c.if-marked.false)))
    c.mark.ensures.wire.told

pub returns-in-Ok-upgraded_line-clause-log_images : goal.returns-in-Ok-upgraded_line-clause-log_images
returns-in-Ok-upgraded_line-clause-log_images g c content logged told stands =
    c.mark.ensures.images log_placement content logged told (stands_by_log content logged stands)

pub returns-in-Ok-upgraded_line-clause-disk_fault : goal.returns-in-Ok-upgraded_line-clause-disk_fault
returns-in-Ok-upgraded_line-clause-disk_fault g c = disk_blamed _ _ c.in-Err-mark.ensures.cause

pub returns-in-Ok-upgraded_line-clause-untold : goal.returns-in-Ok-upgraded_line-clause-untold
returns-in-Ok-upgraded_line-clause-untold g c = none_blamed _ _ _ c.mark.ensures.wire.faults
    (λ both. absurd (cc both))

-- ---- no memory for the line

pub returns-clause-upgrades : goal.returns-clause-upgrades
returns-clause-upgrades g c logged is = not_begun g.M.Clock.now g.M.Clock.disk g.M.Clock.told
    c.args.machine.now logged stops.Memory
    (log_at c.args.log
    (g.M.Clock.disk c.args.machine.now (g.M.Clock.now c.args.machine.now)) logged is)

pub returns-clause-log_images : goal.returns-clause-log_images
returns-clause-log_images g c content logged told stands = log_still g.M.Clock.now g.M.Clock.disk
    c.args.machine.now
    c.args.log content logged c.requires.agrees told stands
