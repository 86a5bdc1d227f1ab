use Rattle.std.proofs.Common.{◌∙◌, refl, rules}
use Rattle.disk_model.proofs.Calls.{stay_keeps}
use Rattle.block_log.specs.Log.{next_in_log}
use Rattle.cli_promises.specs.recovery.Node.{next_in_chain, logged_in}
use Rattle.merkle_dag.proofs.Causes.{unblamed}
use Rattle.cli_promises.specs.Appending.{Grows}
use Rattle.cli_promises.specs.declared.ending.RunStop.TheVariants as stops
use Rattle.cli_append.proofs.Loop.{goes_still}
use Rattle.cli_append.proofs.Turns.{all_appended, unread, stopped_within, refused}
use Rattle.cli_append.proofs.Causes.{carried, kept, none_blamed}
use Rattle.cli_append.proofs.appending.append.Goals as goal

pub returns-in-Ok-Whole-clause-appends : goal.returns-in-Ok-Whole-clause-appends
returns-in-Ok-Whole-clause-appends g c known first input is left =
    let takes = rw c.in-Ok-Whole.field-0-is at c.in-Ok-Whole.ensures.takes in
    all_appended g.M.Clock.now g.M.Clock.disk g.M.Clock.told g.M.Clock.disk_faults
    g.M.Clock.wire_faults g.S.Scratch.state g.S.Scratch.scratch_faults _ _ _ c.requires.ready known
    first input is left
    c.in-Ok-Whole.longer c.end_whole.new.machine c.end_whole.result takes c.end_whole.ensures.disk
    c.end_whole.ensures.wire.told c.end_whole.ensures.end

pub returns-in-Ok-Whole-clause-goes_on : goal.returns-in-Ok-Whole-clause-goes_on
returns-in-Ok-Whole-clause-goes_on g c known first is is_told =
    goes_still g.M.Clock.now g.M.Clock.disk g.M.Clock.told c.args.machine.now
    c.take_all.new.machine c.end_whole.new.machine (logged_in c.args.node.log first)
    (c.take_all.ensures.goes_on known first is is_told) c.end_whole.ensures.disk

pub returns-in-Ok-Whole-clause-log_goes_on : goal.returns-in-Ok-Whole-clause-log_goes_on
returns-in-Ok-Whole-clause-log_goes_on g c content content_is =
    stay_keeps g.M.Clock.now g.M.Clock.disk c.args.machine.now c.take_all.new.machine
    c.end_whole.new.machine (Grows next_in_log content)
    (c.take_all.ensures.log_goes_on content content_is) c.end_whole.ensures.disk

pub returns-in-Ok-Refused-clause-appends : goal.returns-in-Ok-Refused-clause-appends
returns-in-Ok-Refused-clause-appends g c known first input is left =
    let takes = rw c.in-Ok-Refused.field-0-is at c.in-Ok-Refused.ensures.takes in
    refused g.M.Clock.now g.M.Clock.disk g.M.Clock.told g.M.Clock.disk_faults
    g.M.Clock.wire_faults g.S.Scratch.state g.S.Scratch.scratch_faults _ _ _ c.requires.ready known
    first input is left
    c.refuse.new.machine c.in-Ok-Refused.frame c.refuse.result c.in-Ok-Refused.cause takes
    c.refuse.ensures.disk.stays (c.refuse.ensures.lines next_in_chain) c.refuse.ensures.end

pub returns-in-Err-Fault-clause-appends : goal.returns-in-Err-Fault-clause-appends
returns-in-Err-Fault-clause-appends g c known first input is left =
    let takes = rw c.in-Err-Fault.field-0-is at c.in-Err-Fault.ensures.takes in
    unread g.M.Clock.now g.M.Clock.disk g.M.Clock.told g.M.Clock.disk_faults
    g.M.Clock.wire_faults g.S.Scratch.state g.S.Scratch.scratch_faults _ _ _ c.requires.ready known
    first input is left
    _ stops.Unreadable takes takes.end

pub returns-in-Err-Memory-clause-appends : goal.returns-in-Err-Memory-clause-appends
returns-in-Err-Memory-clause-appends g c known first input is left =
    let takes = rw c.in-Err-Memory.field-0-is at c.in-Err-Memory.ensures.takes in
    unread g.M.Clock.now g.M.Clock.disk g.M.Clock.told g.M.Clock.disk_faults
    g.M.Clock.wire_faults g.S.Scratch.state g.S.Scratch.scratch_faults _ _ _ c.requires.ready known
    first input is left
    _ stops.Memory takes takes.end

pub returns-in-Err-Taker-clause-appends : goal.returns-in-Err-Taker-clause-appends
returns-in-Err-Taker-clause-appends g c known first input is left =
    let takes = rw c.in-Err-Taker.field-0-is at c.in-Err-Taker.ensures.takes in
    search (
      rules,
      stopped_within g.M.Clock.now g.M.Clock.disk g.M.Clock.told g.M.Clock.disk_faults
          g.M.Clock.wire_faults g.S.Scratch.state g.S.Scratch.scratch_faults _ _ _ c.requires.ready
          known first input is left
          c.in-Err-Taker.stop takes,
    )

pub returns-in-Ok-Refused-clause-goes_on : goal.returns-in-Ok-Refused-clause-goes_on
returns-in-Ok-Refused-clause-goes_on g c known first is is_told =
    goes_still g.M.Clock.now g.M.Clock.disk g.M.Clock.told c.args.machine.now
    c.take_all.new.machine c.refuse.new.machine (logged_in c.args.node.log first)
    (c.take_all.ensures.goes_on known first is is_told) c.refuse.ensures.disk.stays

pub returns-in-Ok-Refused-clause-log_goes_on : goal.returns-in-Ok-Refused-clause-log_goes_on
returns-in-Ok-Refused-clause-log_goes_on g c content content_is =
    stay_keeps g.M.Clock.now g.M.Clock.disk c.args.machine.now c.take_all.new.machine
    c.refuse.new.machine (Grows next_in_log content)
    (c.take_all.ensures.log_goes_on content content_is) c.refuse.ensures.disk.stays

pub returns-in-Ok-Refused-clause-untold : goal.returns-in-Ok-Refused-clause-untold
returns-in-Ok-Refused-clause-untold g c =
    carried _ _ _ _ _ (unblamed _ _ c.in-Ok-Refused.ensures.untold) c.refuse.ensures.untold
    (λ blames. blames) (λ blames. blames)

pub returns-in-Ok-Whole-clause-unreadable : goal.returns-in-Ok-Whole-clause-unreadable
returns-in-Ok-Whole-clause-unreadable g c =
    none_blamed _ _ _ (unblamed _ _ c.in-Ok-Whole.ensures.unreadable) c.end_whole.ensures.reads

pub returns-in-Ok-Whole-clause-disk_fault : goal.returns-in-Ok-Whole-clause-disk_fault
returns-in-Ok-Whole-clause-disk_fault g c =
    carried _ _ _ _ _ (unblamed _ _ c.in-Ok-Whole.ensures.disk_fault) c.end_whole.ensures.disk_fault
    (λ blames. blames) (λ blames. blames)

pub returns-in-Ok-Whole-clause-scratch_fault : goal.returns-in-Ok-Whole-clause-scratch_fault
returns-in-Ok-Whole-clause-scratch_fault g c =
    none_blamed _ _ _ (unblamed _ _ c.in-Ok-Whole.ensures.scratch_fault) c.end_whole.ensures.keeps

pub returns-in-Ok-Whole-clause-untold : goal.returns-in-Ok-Whole-clause-untold
returns-in-Ok-Whole-clause-untold g c =
    none_blamed _ _ _
    (c.end_whole.ensures.wire.faults ∙ unblamed _ _ c.in-Ok-Whole.ensures.untold)
    c.end_whole.ensures.tells

pub returns-in-Ok-Refused-clause-unreadable : goal.returns-in-Ok-Refused-clause-unreadable
returns-in-Ok-Refused-clause-unreadable g c =
    none_blamed _ _ _ (unblamed _ _ c.in-Ok-Refused.ensures.unreadable) c.refuse.ensures.reads

pub returns-in-Ok-Refused-clause-disk_fault : goal.returns-in-Ok-Refused-clause-disk_fault
returns-in-Ok-Refused-clause-disk_fault g c =
    none_blamed _ _ _ (c.refuse.ensures.disk.faults ∙ unblamed _ _ c.in-Ok-Refused.ensures.disk_fault) c.refuse.ensures.writes

pub returns-in-Ok-Refused-clause-scratch_fault : goal.returns-in-Ok-Refused-clause-scratch_fault
returns-in-Ok-Refused-clause-scratch_fault g c =
    none_blamed _ _ _ (unblamed _ _ c.in-Ok-Refused.ensures.scratch_fault) c.refuse.ensures.keeps

pub returns-in-Err-Fault-clause-unreadable : goal.returns-in-Err-Fault-clause-unreadable
returns-in-Err-Fault-clause-unreadable g c =
    kept _ _ _ _ _ refl
    (rw c.in-Err-Fault.field-0-is at c.in-Err-Fault.ensures.unreadable)
    (λ blames. refl) (λ blames. refl)

pub returns-in-Err-Fault-clause-disk_fault : goal.returns-in-Err-Fault-clause-disk_fault
returns-in-Err-Fault-clause-disk_fault g c =
    kept _ _ _ _ _ refl
    (rw c.in-Err-Fault.field-0-is at c.in-Err-Fault.ensures.disk_fault)
    (λ blames. absurd (cc blames)) (λ blames. absurd (cc blames))

pub returns-in-Err-Fault-clause-scratch_fault : goal.returns-in-Err-Fault-clause-scratch_fault
returns-in-Err-Fault-clause-scratch_fault g c =
    kept _ _ _ _ _ refl
    (rw c.in-Err-Fault.field-0-is at c.in-Err-Fault.ensures.scratch_fault)
    (λ blames. absurd (cc blames)) (λ blames. absurd (cc blames))

pub returns-in-Err-Fault-clause-untold : goal.returns-in-Err-Fault-clause-untold
returns-in-Err-Fault-clause-untold g c =
    kept _ _ _ _ _ refl
    (rw c.in-Err-Fault.field-0-is at c.in-Err-Fault.ensures.untold)
    (λ blames. absurd (cc blames)) (λ blames. absurd (cc blames))

pub returns-in-Err-Memory-clause-unreadable : goal.returns-in-Err-Memory-clause-unreadable
returns-in-Err-Memory-clause-unreadable g c =
    kept _ _ _ _ _ refl
    (rw c.in-Err-Memory.field-0-is at c.in-Err-Memory.ensures.unreadable)
    (λ blames. absurd (cc blames)) (λ blames. absurd (cc blames))

pub returns-in-Err-Memory-clause-disk_fault : goal.returns-in-Err-Memory-clause-disk_fault
returns-in-Err-Memory-clause-disk_fault g c =
    kept _ _ _ _ _ refl
    (rw c.in-Err-Memory.field-0-is at c.in-Err-Memory.ensures.disk_fault)
    (λ blames. absurd (cc blames)) (λ blames. absurd (cc blames))

pub returns-in-Err-Memory-clause-scratch_fault : goal.returns-in-Err-Memory-clause-scratch_fault
returns-in-Err-Memory-clause-scratch_fault g c =
    kept _ _ _ _ _ refl
    (rw c.in-Err-Memory.field-0-is at c.in-Err-Memory.ensures.scratch_fault)
    (λ blames. absurd (cc blames)) (λ blames. absurd (cc blames))

pub returns-in-Err-Memory-clause-untold : goal.returns-in-Err-Memory-clause-untold
returns-in-Err-Memory-clause-untold g c =
    kept _ _ _ _ _ refl
    (rw c.in-Err-Memory.field-0-is at c.in-Err-Memory.ensures.untold)
    (λ blames. absurd (cc blames)) (λ blames. absurd (cc blames))

pub returns-in-Err-Taker-clause-disk_fault : goal.returns-in-Err-Taker-clause-disk_fault
returns-in-Err-Taker-clause-disk_fault g c =
    kept _ _ _ _ _ refl
    (rw c.in-Err-Taker.field-0-is at c.in-Err-Taker.ensures.disk_fault)
    (λ blames. cc blames) (λ blames. cc blames)

pub returns-in-Err-Taker-clause-scratch_fault : goal.returns-in-Err-Taker-clause-scratch_fault
returns-in-Err-Taker-clause-scratch_fault g c =
    kept _ _ _ _ _ refl
    (rw c.in-Err-Taker.field-0-is at c.in-Err-Taker.ensures.scratch_fault)
    (λ blames. cc blames) (λ blames. cc blames)

pub returns-in-Err-Taker-clause-untold : goal.returns-in-Err-Taker-clause-untold
returns-in-Err-Taker-clause-untold g c =
    kept _ _ _ _ _ refl
    (rw c.in-Err-Taker.field-0-is at c.in-Err-Taker.ensures.untold)
    (λ blames. cc blames) (λ blames. cc blames)
