use Rattle.std.proofs.Common.{refl, ap}
use Rattle.std.specs.Prelude.{Err}
use Rattle.block_codec.specs.Reading.{block_in}
use Rattle.chain_replay.specs.Judging.{judgement_of}
use Rattle.cli_promises.specs.recovery.Node.{next_in_chain, stored_placement, logged_in}
use Rattle.cli_append.proofs.Causes.{carried, kept, none_blamed, unblamed}
use Rattle.cli_append.proofs.Frames.{takes_whole, takes_part, takes_none, takes_refusal}
use Rattle.cli_append.proofs.Frames.{images_told}
use Rattle.cli_append.proofs.ByLog.{log_taken, log_told}
use Rattle.cli_append.proofs.taking.take_frame.Goals as goal

pub returns-in-Ok-tell_appended-clause-takes : goal.returns-in-Ok-tell_appended-clause-takes
returns-in-Ok-tell_appended-clause-takes g c heard blocks is =
    let answer = c.in-Ok.ensures.answer heard blocks is in
    let judgement = judgement_of (stored_placement c.args.node.log.is_marked) blocks
    (block_in c.args.frame.now) in
    let tells = rw c.in-Ok-tell_appended.is at c.tell_appended.ensures in
    takes_whole g.M.Clock.now g.M.Clock.disk g.M.Clock.told c.args.machine.now c.append.new.machine
    c.tell_appended.new.machine (logged_in c.args.node.log blocks) (block_in c.args.frame.now)
    c.args.node c.in-Ok.longer
    c.in-Ok.appended _
    answer.0 refl c.in-Ok.ensures.marked
    (images_told g.M.Clock.now g.M.Clock.disk g.M.Clock.told c.args.machine.now
    c.append.new.machine (logged_in c.args.node.log blocks) judgement
    (λ content told. c.append.ensures.images heard blocks content is told))
    c.append.ensures.wire.told answer.1 (tells.lines next_in_chain)
    tells.stays c.in-Ok.ensures.untouched

pub returns-in-Ok-clause-takes : goal.returns-in-Ok-clause-takes
returns-in-Ok-clause-takes g c heard blocks is =
    let answer = c.in-Ok.ensures.answer heard blocks is in
    let judgement = judgement_of (stored_placement c.args.node.log.is_marked) blocks
    (block_in c.args.frame.now) in
    let tells = rw c.in-Err-tell_appended.is at c.tell_appended.ensures in
    takes_part g.M.Clock.now g.M.Clock.disk g.M.Clock.told c.args.machine.now c.append.new.machine
    c.tell_appended.new.machine (logged_in c.args.node.log blocks) (block_in c.args.frame.now)
    c.args.node c.in-Ok.longer
    c.in-Ok.appended _ c.in-Err-tell_appended.stop
    answer.0 refl c.in-Ok.ensures.marked
    (images_told g.M.Clock.now g.M.Clock.disk g.M.Clock.told c.args.machine.now
    c.append.new.machine (logged_in c.args.node.log blocks) judgement
    (λ content told. c.append.ensures.images heard blocks content is told))
    c.append.ensures.wire.told answer.1 (tells.lines next_in_chain)
    tells.stays

pub returns-in-Refused-clause-takes : goal.returns-in-Refused-clause-takes
returns-in-Refused-clause-takes g c heard blocks is =
    let judgement = judgement_of (stored_placement c.args.node.log.is_marked) blocks
    (block_in c.args.frame.now) in
    let handed = rw c.in-Refused.is at (c.in-Err.ensures.answer heard blocks is) in
    let untouched = (rw c.in-Refused.is at c.in-Err.ensures.untouched) refl in
    takes_refusal g.M.Clock.now g.M.Clock.disk g.M.Clock.told c.args.machine.now
    c.append.new.machine (logged_in c.args.node.log blocks) judgement c.args.node
    c.in-Refused.refusal refl
    (images_told g.M.Clock.now g.M.Clock.disk g.M.Clock.told c.args.machine.now c.append.new.machine
    (logged_in c.args.node.log blocks) judgement (λ content told. c.append.ensures.images heard
    blocks content is told))
    c.append.ensures.wire.told untouched handed.0 handed.2

pub returns-in-DiskFault-clause-takes : goal.returns-in-DiskFault-clause-takes
returns-in-DiskFault-clause-takes g c heard blocks is =
    let judgement = judgement_of (stored_placement c.args.node.log.is_marked) blocks
    (block_in c.args.frame.now) in
    takes_none g.M.Clock.now g.M.Clock.disk g.M.Clock.told c.args.machine.now c.append.new.machine
    (logged_in c.args.node.log blocks) judgement _
    (images_told g.M.Clock.now g.M.Clock.disk g.M.Clock.told c.args.machine.now c.append.new.machine
    (logged_in c.args.node.log blocks) judgement (λ content told. c.append.ensures.images heard
    blocks content is told))
    c.append.ensures.wire.told

pub returns-in-ScratchFault-clause-takes : goal.returns-in-ScratchFault-clause-takes
returns-in-ScratchFault-clause-takes g c heard blocks is =
    let judgement = judgement_of (stored_placement c.args.node.log.is_marked) blocks
    (block_in c.args.frame.now) in
    takes_none g.M.Clock.now g.M.Clock.disk g.M.Clock.told c.args.machine.now c.append.new.machine
    (logged_in c.args.node.log blocks) judgement _
    (images_told g.M.Clock.now g.M.Clock.disk g.M.Clock.told c.args.machine.now c.append.new.machine
    (logged_in c.args.node.log blocks) judgement (λ content told. c.append.ensures.images heard
    blocks content is told))
    c.append.ensures.wire.told

pub returns-clause-takes : goal.returns-clause-takes
returns-clause-takes g c heard blocks is =
    let judgement = judgement_of (stored_placement c.args.node.log.is_marked) blocks
    (block_in c.args.frame.now) in
    takes_none g.M.Clock.now g.M.Clock.disk g.M.Clock.told c.args.machine.now c.append.new.machine
    (logged_in c.args.node.log blocks) judgement _
    (images_told g.M.Clock.now g.M.Clock.disk g.M.Clock.told c.args.machine.now c.append.new.machine
    (logged_in c.args.node.log blocks) judgement (λ content told. c.append.ensures.images heard
    blocks content is told))
    c.append.ensures.wire.told

pub returns-in-Ok-tell_appended-clause-untold : goal.returns-in-Ok-tell_appended-clause-untold
returns-in-Ok-tell_appended-clause-untold g c =
    carried (g.M.Clock.wire_faults c.args.machine.now) (g.M.Clock.wire_faults c.append.new.machine)
    (g.M.Clock.wire_faults c.tell_appended.new.machine) _ _ c.append.ensures.wire.faults
    (rw c.in-Ok-tell_appended.is at c.tell_appended.ensures.untold) (λ b. absurd (cc b))
    (λ b. absurd (cc b))

pub returns-in-Ok-tell_appended-clause-disk_fault :
    goal.returns-in-Ok-tell_appended-clause-disk_fault
returns-in-Ok-tell_appended-clause-disk_fault g c =
    carried (g.M.Clock.disk_faults c.args.machine.now) (g.M.Clock.disk_faults c.append.new.machine)
    (g.M.Clock.disk_faults c.tell_appended.new.machine) _ _
    (unblamed _ _ _ c.in-Ok.ensures.disk_cause (λ b. absurd b))
    (rw c.in-Ok-tell_appended.is at c.tell_appended.ensures.disk_fault) (λ b. absurd (cc b))
    (λ b. absurd (cc b))

pub returns-in-Ok-clause-untold : goal.returns-in-Ok-clause-untold
returns-in-Ok-clause-untold g c =
    carried (g.M.Clock.wire_faults c.args.machine.now) (g.M.Clock.wire_faults c.append.new.machine)
    (g.M.Clock.wire_faults c.tell_appended.new.machine) _ _ c.append.ensures.wire.faults
    (rw c.in-Err-tell_appended.is at c.tell_appended.ensures.untold) (λ b. ap Err (cc b))
    (λ b. ap Err (cc b))

pub returns-in-Ok-clause-disk_fault : goal.returns-in-Ok-clause-disk_fault
returns-in-Ok-clause-disk_fault g c =
    carried (g.M.Clock.disk_faults c.args.machine.now) (g.M.Clock.disk_faults c.append.new.machine)
    (g.M.Clock.disk_faults c.tell_appended.new.machine) _ _
    (unblamed _ _ _ c.in-Ok.ensures.disk_cause (λ b. absurd b))
    (rw c.in-Err-tell_appended.is at c.tell_appended.ensures.disk_fault) (λ b. ap Err (cc b))
    (λ b. ap Err (cc b))

pub returns-in-Ok-clause-reads : goal.returns-in-Ok-clause-reads
returns-in-Ok-clause-reads g c is =
    (rw c.in-Err-tell_appended.is at c.tell_appended.ensures.reads) (ap Err (cc is))

pub returns-in-Ok-tell_appended-clause-log_goes_on :
    goal.returns-in-Ok-tell_appended-clause-log_goes_on
returns-in-Ok-tell_appended-clause-log_goes_on g c content told = log_told g.M.Clock.now
    g.M.Clock.disk
    c.args.machine.now c.append.new.machine c.tell_appended.new.machine c.args.node.log content
    (block_in c.args.frame.now) c.requires.ready.log told c.append.ensures.log_images
    c.tell_appended.ensures.stays

pub returns-in-Ok-clause-log_goes_on : goal.returns-in-Ok-clause-log_goes_on
returns-in-Ok-clause-log_goes_on g c content told = log_told g.M.Clock.now g.M.Clock.disk
    c.args.machine.now c.append.new.machine c.tell_appended.new.machine c.args.node.log content
    (block_in c.args.frame.now) c.requires.ready.log told c.append.ensures.log_images
    c.tell_appended.ensures.stays

pub returns-in-Refused-clause-log_goes_on : goal.returns-in-Refused-clause-log_goes_on
returns-in-Refused-clause-log_goes_on g c content told = log_taken g.M.Clock.now g.M.Clock.disk
    c.args.machine.now c.append.new.machine c.args.node.log content
    (block_in c.args.frame.now) c.requires.ready.log told c.append.ensures.log_images

pub returns-in-DiskFault-clause-log_goes_on : goal.returns-in-DiskFault-clause-log_goes_on
returns-in-DiskFault-clause-log_goes_on g c content told = log_taken g.M.Clock.now g.M.Clock.disk
    c.args.machine.now c.append.new.machine c.args.node.log content
    (block_in c.args.frame.now) c.requires.ready.log told c.append.ensures.log_images

pub returns-in-ScratchFault-clause-log_goes_on : goal.returns-in-ScratchFault-clause-log_goes_on
returns-in-ScratchFault-clause-log_goes_on g c content told = log_taken g.M.Clock.now g.M.Clock.disk
    c.args.machine.now c.append.new.machine c.args.node.log content
    (block_in c.args.frame.now) c.requires.ready.log told c.append.ensures.log_images

pub returns-clause-log_goes_on : goal.returns-clause-log_goes_on
returns-clause-log_goes_on g c content told = log_taken g.M.Clock.now g.M.Clock.disk
    c.args.machine.now c.append.new.machine c.args.node.log content
    (block_in c.args.frame.now) c.requires.ready.log told c.append.ensures.log_images

pub returns-in-Ok-tell_appended-clause-scratch_fault :
    goal.returns-in-Ok-tell_appended-clause-scratch_fault
returns-in-Ok-tell_appended-clause-scratch_fault g c =
    let cause = c.in-Ok.ensures.scratch.cause in
    record {
      later = cause.later;
      failed = λ both. cause.failed cc;
      told = λ differ. absurd (cause.told differ);
    }

pub returns-in-Ok-clause-scratch_fault : goal.returns-in-Ok-clause-scratch_fault
returns-in-Ok-clause-scratch_fault g c =
    kept _ _ _ _ _ refl c.in-Ok.ensures.scratch.cause (λ blames. absurd blames)
    (λ blames. absurd ((rw c.in-Err-tell_appended.is at c.tell_appended.ensures.keeps)
    (ap Err (cc blames))))

pub returns-in-Refused-clause-disk_fault : goal.returns-in-Refused-clause-disk_fault
returns-in-Refused-clause-disk_fault g c =
    let cause = rw c.in-Refused.is at c.in-Err.ensures.disk_cause in
    kept _ _ _ _ _ refl cause (λ blames. absurd (cc blames)) (λ blames. absurd (cc blames))

pub returns-in-Refused-clause-scratch_fault : goal.returns-in-Refused-clause-scratch_fault
returns-in-Refused-clause-scratch_fault g c =
    let cause = rw c.in-Refused.is at c.in-Err.ensures.scratch.cause in
    kept _ _ _ _ _ refl cause (λ blames. absurd (cc blames)) (λ blames. absurd (cc blames))

pub returns-in-Refused-clause-untold : goal.returns-in-Refused-clause-untold
returns-in-Refused-clause-untold g c =
    none_blamed _ _ _ c.append.ensures.wire.faults (λ blames. absurd (cc blames))

pub returns-in-DiskFault-clause-disk_fault : goal.returns-in-DiskFault-clause-disk_fault
returns-in-DiskFault-clause-disk_fault g c =
    let cause = rw c.in-DiskFault.is at c.in-Err.ensures.disk_cause in
    kept _ _ _ _ _ refl cause (λ blames. refl) (λ blames. refl)

pub returns-in-DiskFault-clause-scratch_fault : goal.returns-in-DiskFault-clause-scratch_fault
returns-in-DiskFault-clause-scratch_fault g c =
    let cause = rw c.in-DiskFault.is at c.in-Err.ensures.scratch.cause in
    kept _ _ _ _ _ refl cause (λ blames. absurd (cc blames)) (λ blames. absurd (cc blames))

pub returns-in-DiskFault-clause-untold : goal.returns-in-DiskFault-clause-untold
returns-in-DiskFault-clause-untold g c =
    none_blamed _ _ _ c.append.ensures.wire.faults (λ blames. absurd (cc blames))

pub returns-in-ScratchFault-clause-disk_fault : goal.returns-in-ScratchFault-clause-disk_fault
returns-in-ScratchFault-clause-disk_fault g c =
    let cause = rw c.in-ScratchFault.is at c.in-Err.ensures.disk_cause in
    kept _ _ _ _ _ refl cause (λ blames. absurd (cc blames)) (λ blames. absurd (cc blames))

pub returns-in-ScratchFault-clause-scratch_fault : goal.returns-in-ScratchFault-clause-scratch_fault
returns-in-ScratchFault-clause-scratch_fault g c =
    let cause = rw c.in-ScratchFault.is at c.in-Err.ensures.scratch.cause in
    kept _ _ _ _ _ refl cause (λ blames. refl) (λ blames. refl)

pub returns-in-ScratchFault-clause-untold : goal.returns-in-ScratchFault-clause-untold
returns-in-ScratchFault-clause-untold g c =
    none_blamed _ _ _ c.append.ensures.wire.faults (λ blames. absurd (cc blames))

pub returns-clause-disk_fault : goal.returns-clause-disk_fault
returns-clause-disk_fault g c =
    let cause = rw c.in-Memory.is at c.in-Err.ensures.disk_cause in
    kept _ _ _ _ _ refl cause (λ blames. absurd (cc blames)) (λ blames. absurd (cc blames))

pub returns-clause-scratch_fault : goal.returns-clause-scratch_fault
returns-clause-scratch_fault g c =
    let cause = rw c.in-Memory.is at c.in-Err.ensures.scratch.cause in
    kept _ _ _ _ _ refl cause (λ blames. absurd (cc blames)) (λ blames. absurd (cc blames))

pub returns-clause-untold : goal.returns-clause-untold
returns-clause-untold g c =
    none_blamed _ _ _ c.append.ensures.wire.faults (λ blames. absurd (cc blames))
