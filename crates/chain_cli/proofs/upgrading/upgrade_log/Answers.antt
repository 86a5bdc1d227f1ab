use Rattle.std.proofs.Common.{Err, Some, ap, refl, sym, ◌∙◌}
use Rattle.disk_model.proofs.Moments.{stays_on}
use Rattle.block_log.specs.Log.{next_in_log}
use Rattle.cli_append.specs.recovery.Node.{next_in_chain}
use Rattle.cli_append.proofs.Causes.{carried, kept}
use Rattle.cli_append.specs.cli_promises.declared.ending.RunStop.TheVariants as stops
use Rattle.cli_words.specs.declared.words.Command.TheVariants.{Upgrade}
use Rattle.cli_output.specs.Telling.{status_of_result, upgrade_answer}
use Rattle.cli_output.proofs.Ends.{no_start_ends}
use Rattle.chain_cli.proofs.Runs.{with_status}
use Rattle.chain_cli.proofs.LogRuns.{refused_upgrade, upgrade_run}
use Rattle.chain_cli.proofs.Ends.{upgrade_ends, upgrade_silent}
use Rattle.chain_cli.proofs.Blames.{marked_blames, marked_stops, unblamed}
use Rattle.chain_cli.proofs.Moments.{stays_twice, upgrade_any, upgrade_by_log}
use Rattle.chain_cli.proofs.upgrading.upgrade_log.Goals as goal

-- ---- the log was opened

pub returns-in-Ok-clause-run : goal.returns-in-Ok-clause-run
returns-in-Ok-clause-run g c left held =
    with_status g.M.Clock.now g.M.Clock.disk g.M.Clock.told c.args.machine.now c.upgrade.new.machine
    (status_of_result (upgrade_answer c.upgrade.result)) (status_of_result c.upgrade_answer.result)
    left left held (Some Upgrade) (Some Upgrade)
    (ap status_of_result (sym c.upgrade_answer.ensures)) refl
    (upgrade_run g.M.Clock.now g.M.Clock.disk g.M.Clock.told c.args.machine.now
    c.open_log.new.machine c.upgrade.new.machine c.in-Ok.log c.upgrade.result left held
    c.requires.settled (c.open_log.ensures.stays c.requires.settled) c.open_log.ensures.wire.told
    c.in-Ok.ensures.answer c.upgrade.ensures.upgrades)

pub returns-in-Ok-clause-goes_on : goal.returns-in-Ok-clause-goes_on
returns-in-Ok-clause-goes_on g c =
    upgrade_any g.M.Clock.now g.M.Clock.disk g.M.Clock.told c.args.machine.now
    c.open_log.new.machine c.upgrade.new.machine c.in-Ok.log c.upgrade.result c.requires.settled
    (c.open_log.ensures.stays c.requires.settled) c.in-Ok.ensures.answer c.upgrade.ensures.upgrades

pub returns-in-Ok-clause-log_goes_on : goal.returns-in-Ok-clause-log_goes_on
returns-in-Ok-clause-log_goes_on g c =
    upgrade_by_log g.M.Clock.now g.M.Clock.disk g.M.Clock.told c.args.machine.now
    c.open_log.new.machine c.upgrade.new.machine c.in-Ok.log c.requires.settled
    (c.open_log.ensures.stays c.requires.settled) c.in-Ok.ensures.agrees
    c.upgrade.ensures.log_images

pub returns-in-Ok-clause-unwritten : goal.returns-in-Ok-clause-unwritten
returns-in-Ok-clause-unwritten g c out = stays_on g.M.Clock.now g.M.Clock.disk c.args.machine.now
    c.open_log.new.machine c.upgrade.new.machine (c.open_log.ensures.stays c.requires.settled)
    (c.upgrade.ensures.unwritten (marked_stops c.upgrade.result stops.Memory
    (sym c.upgrade_answer.ensures ∙ out)))

pub returns-in-Ok-clause-silent : goal.returns-in-Ok-clause-silent
returns-in-Ok-clause-silent g c =
    rw c.upgrade_answer.ensures (upgrade_silent c.upgrade.result (g.M.Clock.told c.args.machine.now)
    (g.M.Clock.told c.open_log.new.machine) (g.M.Clock.told c.upgrade.new.machine)
    c.open_log.ensures.wire.told c.upgrade.ensures.reads c.upgrade.ensures.keeps
    c.upgrade.ensures.silent_disk c.upgrade.ensures.silent_memory)

pub returns-in-Ok-clause-ends : goal.returns-in-Ok-clause-ends
returns-in-Ok-clause-ends g c = rw c.upgrade_answer.ensures
    (upgrade_ends c.upgrade.result c.upgrade.ensures.reads c.upgrade.ensures.keeps)

pub returns-in-Ok-clause-reads : goal.returns-in-Ok-clause-reads
returns-in-Ok-clause-reads g c blames = c.upgrade.ensures.reads
    (marked_stops c.upgrade.result stops.Unreadable (sym c.upgrade_answer.ensures ∙ blames))

pub returns-in-Ok-clause-keeps : goal.returns-in-Ok-clause-keeps
returns-in-Ok-clause-keeps g c blames = c.upgrade.ensures.keeps
    (marked_stops c.upgrade.result stops.ScratchFault (sym c.upgrade_answer.ensures ∙ blames))

pub returns-in-Ok-clause-disk_fault : goal.returns-in-Ok-clause-disk_fault
returns-in-Ok-clause-disk_fault g c =
    marked_blames c.upgrade.result c.upgrade_answer.result stops.DiskFault _ _ _
    c.upgrade_answer.ensures (unblamed _ _ c.in-Ok.ensures.disk_fault) c.upgrade.ensures.disk_fault

pub returns-in-Ok-clause-untold : goal.returns-in-Ok-clause-untold
returns-in-Ok-clause-untold g c =
    marked_blames c.upgrade.result c.upgrade_answer.result stops.Untold _ _ _
    c.upgrade_answer.ensures c.open_log.ensures.wire.faults c.upgrade.ensures.untold

-- ---- there is no log to open

pub returns-in-Err-clause-run : goal.returns-in-Err-clause-run
returns-in-Err-clause-run g c left held =
    refused_upgrade g.M.Clock.now g.M.Clock.disk g.M.Clock.told c.args.machine.now
    c.open_log.new.machine c.tell.new.machine c.in-Err.error c.start_outcome.result c.tell.result
    left held c.requires.settled (c.open_log.ensures.stays c.requires.settled)
    c.open_log.ensures.wire.told c.in-Err.ensures.answer c.start_outcome.ensures.outcome
    c.tell.ensures.disk.stays (c.tell.ensures.tells next_in_chain)

pub returns-in-Err-clause-goes_on : goal.returns-in-Err-clause-goes_on
returns-in-Err-clause-goes_on g c =
    stays_twice g.M.Clock.now g.M.Clock.disk g.M.Clock.told next_in_chain (Some Upgrade)
    c.args.machine.now c.open_log.new.machine c.tell.new.machine c.requires.settled
    (c.open_log.ensures.stays c.requires.settled) c.tell.ensures.disk.stays

pub returns-in-Err-clause-log_goes_on : goal.returns-in-Err-clause-log_goes_on
returns-in-Err-clause-log_goes_on g c =
    stays_twice g.M.Clock.now g.M.Clock.disk g.M.Clock.told next_in_log (Some Upgrade)
    c.args.machine.now c.open_log.new.machine c.tell.new.machine c.requires.settled
    (c.open_log.ensures.stays c.requires.settled) c.tell.ensures.disk.stays

pub returns-in-Err-clause-unwritten : goal.returns-in-Err-clause-unwritten
returns-in-Err-clause-unwritten g c out = stays_on g.M.Clock.now g.M.Clock.disk c.args.machine.now
    c.open_log.new.machine c.tell.new.machine (c.open_log.ensures.stays c.requires.settled)
    c.tell.ensures.disk.stays

pub returns-in-Err-clause-ends : goal.returns-in-Err-clause-ends
returns-in-Err-clause-ends g c = c.tell.ensures.ends (Some Upgrade)
    (no_start_ends c.start_outcome.result c.in-Err.error (Some Upgrade) refl
    c.start_outcome.ensures.outcome c.start_outcome.ensures.reads
    (λ failed. absurd (c.in-Err.ensures.no_scratch_fault
    (cc (c.start_outcome.ensures.scratch_fault failed)))))

pub returns-in-Err-clause-reads : goal.returns-in-Err-clause-reads
returns-in-Err-clause-reads g c blames =
    c.start_outcome.ensures.reads (c.tell.ensures.unreadable blames)

pub returns-in-Err-clause-keeps : goal.returns-in-Err-clause-keeps
returns-in-Err-clause-keeps g c blames = c.in-Err.ensures.no_scratch_fault
    (ap Err (c.start_outcome.ensures.scratch_fault (c.tell.ensures.scratch_fault blames)))

pub returns-in-Err-clause-disk_fault : goal.returns-in-Err-clause-disk_fault
returns-in-Err-clause-disk_fault g c =
    kept _ _ _ _ _ c.tell.ensures.disk.faults c.in-Err.ensures.disk_fault
    (λ blames. c.tell.ensures.disk_blamed (c.start_outcome.ensures.disk_blamed (cc blames)))
    (λ blames. ap Err (c.start_outcome.ensures.disk_fault (c.tell.ensures.disk_fault blames)))

pub returns-in-Err-clause-untold : goal.returns-in-Err-clause-untold
returns-in-Err-clause-untold g c =
    carried _ _ _ _ _ c.open_log.ensures.wire.faults c.tell.ensures.cause (λ blames. blames)
    (λ blames. blames)
