use Rattle.std.proofs.Common.{◌≡◌, ◌∙◌, sym, ap, subst, arith, length, List}
use Rattle.std.specs.Vec.{with_items}
use Rattle.std.proofs.lemmas.List.{with_items_is}
use Rattle.lc_base.specs.declared.digest.Digest.{Digest}
use Rattle.merkle_tree.specs.Levels.{leaf_level, hashes_in, renew_through, AreLevels, Renews}
use Rattle.merkle_tree.proofs.Renewed.{are_renewed}
use Rattle.merkle_tree.proofs.levels.Levels.renew.Goals as goal

after : (c : goal.After-self-2-1) (leaves : List Digest) → length leaves ≡ c.args.count → Renews c.args.self.now leaves c.args.hashes.items
    → AreLevels (hashes_in (with_items (with_items c.self.inside.levels c.take_room.new.levels) c.renew_through.new.levels).items)
    × (leaf_level (hashes_in (with_items (with_items c.self.inside.levels c.take_room.new.levels) c.renew_through.new.levels).items) ≡ leaves)
after c leaves long renews =
    let old = hashes_in c.self.inside.levels.items in
    let before : hashes_in c.as_mut_slice-2.result.now ≡ old =
    ap hashes_in (c.as_mut_slice-2.ensures.value ∙ with_items_is c.self.inside.levels c.take_room.new.levels (omega arith)) ∙ c.take_room.ensures.same ∙ ap hashes_in c.as_mut_slice.ensures.value in
    let new = ap hashes_in (with_items_is (with_items c.self.inside.levels c.take_room.new.levels) c.renew_through.new.levels (omega arith)) ∙ c.renew_through.ensures
    ∙ ap (renew_through c.args.count c.args.hashes.items) before in
    let own : Renews (leaf_level old) leaves c.args.hashes.items = subst (λ (level : List Digest). Renews level leaves c.args.hashes.items) (sym c.self.view_is) renews in
    are_renewed old _ c.args.count leaves c.args.hashes.items c.self.invariant long c.requires.few own new

pub invariant_of-self-2 : goal.invariant_of-self-2
invariant_of-self-2 c = let given = c.requires.renews in (after c given.0 given.1 given.2).0

pub returns-clause-ok : goal.returns-clause-ok
returns-clause-ok c leaves long renews = (after c leaves long renews).1
