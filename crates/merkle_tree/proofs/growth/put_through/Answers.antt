use Rattle.std.proofs.Common.{◌∙◌, sym, arith}
use Rattle.merkle_tree.proofs.Raising.{one_put, all_put, room_rest}
use Rattle.merkle_tree.proofs.growth.put_through.Goals as goal

pub loop-level-preserved : goal.loop-level-preserved
loop-level-preserved c = record {
  grown = one_put c.loop-level.levels c.loop-level.level-index c.loop-level.place c.loop-level.over c.put_level-over.result c.put_level-over.new.level c.level-item.result (omega arith) c.put_level-over.ensures.put c.put_level-over.ensures.over ∙ c.loop-level.invariant.grown;
  room = room_rest c.loop-level.levels c.loop-level.level-index c.put_level-over.new.level c.loop-level.invariant.room;
}

pub returns : goal.returns
returns c = sym (all_put c.loop-level.levels c.loop-level.level-index c.loop-level.place c.loop-level.over (omega arith)) ∙ c.loop-level.invariant.grown
