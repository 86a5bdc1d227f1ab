use Rattle.std.proofs.Common.{refl, rules, ◌∙◌}
use Rattle.disk_model.proofs.Moments.{stays_on}
use Rattle.cli_proofs.proofs.Checked.{whole_says, whole_left, unread_says, stopped_says}
use Rattle.cli_proofs.proofs.Checked.{refused_says, refused_left, if_ended, whole_may_end}
use Rattle.cli_proofs.proofs.Checked.{refused_may_end, only_memory}
use Rattle.cli_proofs.proofs.checking.check_proofs.Goals as goal

pub returns-in-Ok-Whole-clause-says : goal.returns-in-Ok-Whole-clause-says
returns-in-Ok-Whole-clause-says g c input is next =
    let takes = rw c.in-Ok-Whole.field-0-is at c.in-Ok-Whole.ensures.takes in
    whole_says g.M.Clock.now g.M.Clock.disk g.M.Clock.told g.M.Clock.disk_faults
    g.M.Clock.wire_faults _ c.args.file _ _ refl input is c.in-Ok-Whole.checks takes next
    c.whole_ending.result c.whole_ending.ensures

pub returns-in-Ok-Whole-clause-leaves : goal.returns-in-Ok-Whole-clause-leaves
returns-in-Ok-Whole-clause-leaves g c input is =
    let takes = rw c.in-Ok-Whole.field-0-is at c.in-Ok-Whole.ensures.takes in
    whole_left g.M.Clock.now g.M.Clock.disk g.M.Clock.told g.M.Clock.disk_faults
    g.M.Clock.wire_faults _ c.args.file _ _ refl input is c.in-Ok-Whole.checks takes

pub returns-in-Ok-Whole-clause-ends : goal.returns-in-Ok-Whole-clause-ends
returns-in-Ok-Whole-clause-ends g c =
    rw c.whole_ending.ensures (whole_may_end c.in-Ok-Whole.checks.rejected)

pub returns-in-Ok-Refused-clause-says : goal.returns-in-Ok-Refused-clause-says
returns-in-Ok-Refused-clause-says g c input is next =
    let takes = rw c.in-Ok-Refused.field-0-is at c.in-Ok-Refused.ensures.takes in
    refused_says g.M.Clock.now g.M.Clock.disk g.M.Clock.told g.M.Clock.disk_faults
    g.M.Clock.wire_faults _ c.args.file _ _ refl input is c.tell.new.machine c.in-Ok-Refused.frame
    c.in-Ok-Refused.cause c.refused.result c.tell.result takes c.tell.ensures.disk.stays
    c.refused.ensures.outcome next (c.tell.ensures.tells next)

pub returns-in-Ok-Refused-clause-leaves : goal.returns-in-Ok-Refused-clause-leaves
returns-in-Ok-Refused-clause-leaves g c input is =
    let takes = rw c.in-Ok-Refused.field-0-is at c.in-Ok-Refused.ensures.takes in
    if_ended c.tell.result (refused_left g.M.Clock.now g.M.Clock.disk g.M.Clock.told
    g.M.Clock.disk_faults g.M.Clock.wire_faults _ c.args.file _ _ refl input is
    c.in-Ok-Refused.frame c.in-Ok-Refused.cause takes)

pub returns-in-Ok-Refused-clause-ends : goal.returns-in-Ok-Refused-clause-ends
returns-in-Ok-Refused-clause-ends g c = c.tell.ensures.ends _
    (refused_may_end c.refused.result _ c.refused.ensures.outcome c.refused.ensures.stop)

pub returns-in-Ok-Refused-clause-disk : goal.returns-in-Ok-Refused-clause-disk
returns-in-Ok-Refused-clause-disk g c = record {
  stays = stays_on g.M.Clock.now g.M.Clock.disk c.args.machine.now c.check_frames.new.machine
      c.tell.new.machine c.check_frames.ensures.disk.stays c.tell.ensures.disk.stays;
  faults = c.tell.ensures.disk.faults ∙ c.check_frames.ensures.disk.faults;
}

pub returns-in-Err-Fault-clause-says : goal.returns-in-Err-Fault-clause-says
returns-in-Err-Fault-clause-says g c input is next =
    let takes = rw c.in-Err-Fault.field-0-is at c.in-Err-Fault.ensures.takes in
    unread_says g.M.Clock.now g.M.Clock.disk g.M.Clock.told g.M.Clock.disk_faults
    g.M.Clock.wire_faults _ c.args.file _ _ refl input is _ _ takes takes.end next

pub returns-in-Err-Memory-clause-says : goal.returns-in-Err-Memory-clause-says
returns-in-Err-Memory-clause-says g c input is next =
    let takes = rw c.in-Err-Memory.field-0-is at c.in-Err-Memory.ensures.takes in
    unread_says g.M.Clock.now g.M.Clock.disk g.M.Clock.told g.M.Clock.disk_faults
    g.M.Clock.wire_faults _ c.args.file _ _ refl input is _ _ takes takes.end next

pub returns-in-Err-Taker-clause-says : goal.returns-in-Err-Taker-clause-says
returns-in-Err-Taker-clause-says g c input is next =
    let takes = rw c.in-Err-Taker.field-0-is at c.in-Err-Taker.ensures.takes in
    search (
      rules,
      stopped_says g.M.Clock.now g.M.Clock.disk g.M.Clock.told g.M.Clock.disk_faults
          g.M.Clock.wire_faults _ c.args.file _ _ refl input is c.in-Err-Taker.stop takes next,
    )
