use Rattle.std.proofs.Common.{◌∙◌, ◌<◌, [], arith, length}
use Rattle.std.proofs.lemmas.List.{take_all, append-nil}
use Rattle.merkle_tree.proofs.Raising.{items_same}
use Rattle.merkle_tree.proofs.Renewed.{room_taken}
use Rattle.merkle_tree.proofs.renewing.take_room.Goals as goal

pub returns-in_err-reserve-clause-same : goal.returns-in_err-reserve-clause-same
returns-in_err-reserve-clause-same c =
    items_same c.loop-level.levels c.loop-level.level-index c.reserve.new.self c.level-item.result (omega arith) c.reserve.ensures.items ∙ c.loop-level.invariant.same

pub loop-level-preserved : goal.loop-level-preserved
loop-level-preserved c =
    let below : c.loop-level.level-index < length c.loop-level.levels = omega arith in
    record {
      same = items_same c.loop-level.levels c.loop-level.level-index c.reserve.new.self c.level-item.result below c.reserve.ensures.items ∙ c.loop-level.invariant.same;
      room = rw c.count_above-wanted.ensures (room_taken c.loop-level.levels c.loop-level.level-index c.args.count c.loop-level.wanted c.reserve.new.self below (omega (arith, c.in_ok-reserve.ensures.ok)) c.loop-level.invariant.room);
    }

pub returns-clause-room : goal.returns-clause-room
returns-clause-room c =
    rw (take_all c.loop-level.level-index c.loop-level.levels (omega arith), append-nil c.loop-level.levels) at (c.loop-level.invariant.room [] tt)
