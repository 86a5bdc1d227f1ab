use Rattle.std.proofs.Common.{◌≡◌, ◌∙◌, ◌<◌, ◌++◌, ◌∷◌, [], ap, arith, length, List}
use Rattle.std.specs.Vec.{with_items}
use Rattle.std.proofs.lemmas.List.{with_items_is}
use Rattle.lc_base.specs.declared.digest.Digest.{Digest}
use Rattle.merkle_tree.specs.Levels.{leaf_level, hashes_in, put_through, AreLevels}
use Rattle.merkle_tree.specs.declared.limits.TheConstants.{MAX_LEAVES}
use Rattle.merkle_tree.proofs.Raising.{are_put}
use Rattle.merkle_tree.proofs.Top.{level_count, lowest_is}
use Rattle.merkle_tree.proofs.levels.Levels.push.Goals as goal

pub index-requires : goal.index-requires
index-requires c = let count = level_count c.self.inside.levels.items c.self.invariant in omega arith

after : (c : goal.After-self-2-1) → AreLevels (hashes_in (with_items (with_items c.self.inside.levels c.make_room.new.levels) c.put_through.new.levels).items)
    × (leaf_level (hashes_in (with_items (with_items c.self.inside.levels c.make_room.new.levels) c.put_through.new.levels).items) ≡ leaf_level (hashes_in c.self.inside.levels.items) ++ c.args.hash ∷ [])
after c =
    let old = hashes_in c.self.inside.levels.items in
    let count = level_count c.self.inside.levels.items c.self.invariant in
    let room : length (leaf_level old) < MAX_LEAVES = rw (← c.self.view_is) at c.requires in
    let lowest = lowest_is c.self.inside.levels.items c.index.result.now (omega arith) c.index.ensures in
    let at : c.len-index.result ≡ length (leaf_level old) = c.len-index.ensures ∙ c.index.result.now.ok.0 ∙ ap (λ (l : List Digest). length l) lowest in
    let before : hashes_in c.as_mut_slice-2.result.now ≡ old =
    ap hashes_in (c.as_mut_slice-2.ensures.value ∙ with_items_is c.self.inside.levels c.make_room.new.levels (omega arith)) ∙ c.make_room.ensures.same ∙ ap hashes_in c.as_mut_slice.ensures.value in
    let new = ap hashes_in (with_items_is (with_items c.self.inside.levels c.make_room.new.levels) c.put_through.new.levels (omega arith)) ∙ c.put_through.ensures
    ∙ ap (put_through c.len-index.result c.args.hash) before ∙ ap (λ at. put_through at c.args.hash old) at in
    are_put old _ c.args.hash c.self.invariant room new

pub invariant_of-self-2 : goal.invariant_of-self-2
invariant_of-self-2 c = (after c).0

pub returns-clause-ok : goal.returns-clause-ok
returns-clause-ok c = (after c).1 ∙ ap (λ l. l ++ c.args.hash ∷ []) c.self.view_is
