use Rattle.std.proofs.Common.{refl, rules}
use Rattle.disk_model.proofs.Calls.{stay_keeps}
use Rattle.block_log.specs.Log.{next_in_log}
use Rattle.cli_promises.specs.recovery.Node.{next_in_chain, logged_in}
use Rattle.merkle_dag.proofs.Causes.{unblamed}
use Rattle.cli_promises.specs.Appending.{GoesFrom, Grows}
use Rattle.cli_promises.specs.declared.ending.RunStop.TheVariants as stops
use Rattle.cli_append.proofs.Causes.{carried}
use Rattle.cli_append.proofs.Upgraded.{none_blamed}
use Rattle.follower_steps.specs.Steps.{started}
use Rattle.cli_append.proofs.FollowTurns.{whole_followed, unread, stopped_within, refused}
use Rattle.cli_append.proofs.FollowTurns.{taker_blames}
use Rattle.cli_append.proofs.FollowTurns.{source_unblamed}
use Rattle.cli_append.proofs.following.follow.Goals as goal

pub returns-in-Ok-Whole-clause-follows : goal.returns-in-Ok-Whole-clause-follows
returns-in-Ok-Whole-clause-follows g c known blocks input is left =
    let takes = rw c.in-Ok-Whole.field-0-is at c.in-Ok-Whole.ensures.takes in
    whole_followed g.M.Clock.now g.M.Clock.disk g.M.Clock.told g.M.Clock.disk_faults
    g.M.Clock.wire_faults g.S.Scratch.state g.S.Scratch.scratch_faults _ _ _ refl c.requires.ready
    known (started blocks c.args.node.log.is_marked) input
    (record { node = is; marked = refl; waiting = refl }) left
    c.in-Ok-Whole.following c.tell_end.new.machine c.tell_end.result takes
    c.tell_end.ensures.disk (c.tell_end.ensures.lines next_in_chain) c.tell_end.ensures.end

pub returns-in-Ok-Refused-clause-follows : goal.returns-in-Ok-Refused-clause-follows
returns-in-Ok-Refused-clause-follows g c known blocks input is left =
    let takes = rw c.in-Ok-Refused.field-0-is at c.in-Ok-Refused.ensures.takes in
    refused g.M.Clock.now g.M.Clock.disk g.M.Clock.told g.M.Clock.disk_faults
    g.M.Clock.wire_faults g.S.Scratch.state g.S.Scratch.scratch_faults _ _ _ refl c.requires.ready
    known (started blocks c.args.node.log.is_marked) input
    (record { node = is; marked = refl; waiting = refl }) left
    c.refuse.new.machine c.in-Ok-Refused.frame c.in-Ok-Refused.cause c.refuse.result takes
    c.refuse.ensures.disk.stays (c.refuse.ensures.lines next_in_chain) c.refuse.ensures.end

pub returns-in-Err-Fault-clause-follows : goal.returns-in-Err-Fault-clause-follows
returns-in-Err-Fault-clause-follows g c known blocks input is left =
    let takes = rw c.in-Err-Fault.field-0-is at c.in-Err-Fault.ensures.takes in
    unread g.M.Clock.now g.M.Clock.disk g.M.Clock.told g.M.Clock.disk_faults
    g.M.Clock.wire_faults g.S.Scratch.state g.S.Scratch.scratch_faults _ _ _ refl c.requires.ready
    known (started blocks c.args.node.log.is_marked) input
    (record { node = is; marked = refl; waiting = refl }) left
    _ stops.Unreadable takes takes.end

pub returns-in-Err-Memory-clause-follows : goal.returns-in-Err-Memory-clause-follows
returns-in-Err-Memory-clause-follows g c known blocks input is left =
    let takes = rw c.in-Err-Memory.field-0-is at c.in-Err-Memory.ensures.takes in
    unread g.M.Clock.now g.M.Clock.disk g.M.Clock.told g.M.Clock.disk_faults
    g.M.Clock.wire_faults g.S.Scratch.state g.S.Scratch.scratch_faults _ _ _ refl c.requires.ready
    known (started blocks c.args.node.log.is_marked) input
    (record { node = is; marked = refl; waiting = refl }) left
    _ stops.Memory takes takes.end

pub returns-in-Err-Taker-clause-follows : goal.returns-in-Err-Taker-clause-follows
returns-in-Err-Taker-clause-follows g c known blocks input is left =
    let takes = rw c.in-Err-Taker.field-0-is at c.in-Err-Taker.ensures.takes in
    search (
      rules,
      stopped_within g.M.Clock.now g.M.Clock.disk g.M.Clock.told g.M.Clock.disk_faults
          g.M.Clock.wire_faults g.S.Scratch.state g.S.Scratch.scratch_faults _ _ _ refl
          c.requires.ready
          known (started blocks c.args.node.log.is_marked) input
          (record { node = is; marked = refl; waiting = refl }) left
          c.in-Err-Taker.stop takes,
    )

pub returns-in-Ok-Whole-clause-goes_on : goal.returns-in-Ok-Whole-clause-goes_on
returns-in-Ok-Whole-clause-goes_on g c known blocks is is_told =
    stay_keeps g.M.Clock.now g.M.Clock.disk c.args.machine.now c.deliver_all.new.machine
    c.tell_end.new.machine (GoesFrom (logged_in c.args.node.log blocks))
    (c.deliver_all.ensures.goes_on known blocks is is_told) c.tell_end.ensures.disk

pub returns-in-Ok-Whole-clause-log_goes_on : goal.returns-in-Ok-Whole-clause-log_goes_on
returns-in-Ok-Whole-clause-log_goes_on g c content content_is =
    stay_keeps g.M.Clock.now g.M.Clock.disk c.args.machine.now c.deliver_all.new.machine
    c.tell_end.new.machine (Grows next_in_log content)
    (c.deliver_all.ensures.log_goes_on content content_is) c.tell_end.ensures.disk

pub returns-in-Ok-Whole-clause-untold : goal.returns-in-Ok-Whole-clause-untold
returns-in-Ok-Whole-clause-untold g c =
    carried _ _ _ _ _ (unblamed _ _ c.in-Ok-Whole.ensures.untold) c.tell_end.ensures.untold
    (λ blames. blames) (λ blames. blames)

pub returns-in-Ok-Refused-clause-goes_on : goal.returns-in-Ok-Refused-clause-goes_on
returns-in-Ok-Refused-clause-goes_on g c known blocks is is_told =
    stay_keeps g.M.Clock.now g.M.Clock.disk c.args.machine.now c.deliver_all.new.machine
    c.refuse.new.machine (GoesFrom (logged_in c.args.node.log blocks))
    (c.deliver_all.ensures.goes_on known blocks is is_told) c.refuse.ensures.disk.stays

pub returns-in-Ok-Refused-clause-log_goes_on : goal.returns-in-Ok-Refused-clause-log_goes_on
returns-in-Ok-Refused-clause-log_goes_on g c content content_is =
    stay_keeps g.M.Clock.now g.M.Clock.disk c.args.machine.now c.deliver_all.new.machine
    c.refuse.new.machine (Grows next_in_log content)
    (c.deliver_all.ensures.log_goes_on content content_is) c.refuse.ensures.disk.stays

pub returns-in-Ok-Refused-clause-untold : goal.returns-in-Ok-Refused-clause-untold
returns-in-Ok-Refused-clause-untold g c =
    carried _ _ _ _ _ (unblamed _ _ c.in-Ok-Refused.ensures.untold) c.refuse.ensures.untold
    (λ blames. blames) (λ blames. blames)

pub returns-in-Ok-Whole-clause-unreadable : goal.returns-in-Ok-Whole-clause-unreadable
returns-in-Ok-Whole-clause-unreadable g c =
    none_blamed _ _ _ (unblamed _ _ c.in-Ok-Whole.ensures.unreadable) c.tell_end.ensures.reads

pub returns-in-Ok-Whole-clause-disk_fault : goal.returns-in-Ok-Whole-clause-disk_fault
returns-in-Ok-Whole-clause-disk_fault g c =
    carried _ _ _ _ _ (unblamed _ _ c.in-Ok-Whole.ensures.disk_fault) c.tell_end.ensures.disk_fault
    (λ blames. blames) (λ blames. blames)

pub returns-in-Ok-Whole-clause-scratch_fault : goal.returns-in-Ok-Whole-clause-scratch_fault
returns-in-Ok-Whole-clause-scratch_fault g c =
    none_blamed _ _ _ (unblamed _ _ c.in-Ok-Whole.ensures.scratch_fault) c.tell_end.ensures.keeps

pub returns-in-Err-Taker-clause-unreadable : goal.returns-in-Err-Taker-clause-unreadable
returns-in-Err-Taker-clause-unreadable g c =
    let cause = rw c.in-Err-Taker.field-0-is at c.in-Err-Taker.ensures.unreadable in
    let none = rw c.in-Err-Taker.field-0-is at c.in-Err-Taker.ensures.reads in
    search (rules, source_unblamed _ _ c.in-Err-Taker.stop cause none)

pub returns-in-Err-Taker-clause-disk_fault : goal.returns-in-Err-Taker-clause-disk_fault
returns-in-Err-Taker-clause-disk_fault g c =
    let cause = rw c.in-Err-Taker.field-0-is at c.in-Err-Taker.ensures.disk_fault in
    search (rules, taker_blames _ _ c.in-Err-Taker.stop _ cause)

pub returns-in-Err-Taker-clause-scratch_fault : goal.returns-in-Err-Taker-clause-scratch_fault
returns-in-Err-Taker-clause-scratch_fault g c =
    let cause = rw c.in-Err-Taker.field-0-is at c.in-Err-Taker.ensures.scratch_fault in
    search (rules, taker_blames _ _ c.in-Err-Taker.stop _ cause)

pub returns-in-Err-Taker-clause-untold : goal.returns-in-Err-Taker-clause-untold
returns-in-Err-Taker-clause-untold g c =
    let cause = rw c.in-Err-Taker.field-0-is at c.in-Err-Taker.ensures.untold in
    search (rules, taker_blames _ _ c.in-Err-Taker.stop _ cause)
