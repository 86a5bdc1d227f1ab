use Rattle.std.proofs.Common.{◌≡◌, ◌∙◌, ◌<◌, sym, ap, arith, length, List, get_or}
use Rattle.std.specs.Vec.{with_items}
use Rattle.std.proofs.lemmas.List.{with_items_is}
use Rattle.lc_base.specs.declared.digest.Digest.{Digest}
use Rattle.merkle_tree.specs.Levels.{level_of_length, set_each, over_each}
use Rattle.merkle_tree.proofs.Renewed.{one_renewed, none_renewed, room_there, room_after}
use Rattle.merkle_tree.proofs.renewing.renew_through.Goals as goal

pub renew_level-requires : goal.renew_level-requires
renew_level-requires c = room_there c.loop-level.levels c.loop-level.level-index c.loop-level.wanted c.level-item.result (omega arith) c.loop-level.invariant.room

pub loop-level-preserved : goal.loop-level-preserved
loop-level-preserved c =
    let levels = c.loop-level.levels in
    let i = c.loop-level.level-index in
    let wanted = c.loop-level.wanted in
    let hashes = c.loop-level.over.items in
    let old = get_or levels i c.level-item.result in
    let below : i < length levels = omega arith in
    let written : c.renew_level.new.level.items ≡ set_each (level_of_length old.items wanted) hashes =
    c.renew_level.ensures ∙ ap (set_each (level_of_length old.items wanted)) c.as_slice.ensures.value in
    let over : (with_items c.loop-level.over c.raise_each.new.hashes).items ≡ over_each (set_each (level_of_length old.items wanted) hashes) hashes =
    with_items_is c.loop-level.over c.raise_each.new.hashes (omega arith) ∙ c.raise_each.ensures ∙ ap (over_each c.as_slice-in-loop-level.result.now) c.as_mut_slice.ensures.value
    ∙ ap (λ (l : List Digest). over_each l hashes) (c.as_slice-in-loop-level.ensures.value ∙ written) in
    record {
      renewed = rw c.count_above-wanted.ensures
          (one_renewed levels i wanted hashes (with_items c.loop-level.over c.raise_each.new.hashes).items c.renew_level.new.level c.level-item.result below written over ∙ c.loop-level.invariant.renewed);
      room = rw c.count_above-wanted.ensures (room_after levels i wanted c.renew_level.new.level below c.loop-level.invariant.room);
    }

pub returns : goal.returns
returns c = sym (none_renewed c.loop-level.levels c.loop-level.level-index c.loop-level.wanted c.loop-level.over.items (omega arith)) ∙ c.loop-level.invariant.renewed
