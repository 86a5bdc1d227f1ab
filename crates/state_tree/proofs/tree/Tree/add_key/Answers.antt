use Rattle.std.proofs.Common.{◌∙◌, ◌<◌, ◌∷◌, [], ◌++◌, length, List, Some, ap, subst, sym, arith}
use Rattle.std.proofs.lemmas.List.{length-set, length-append}
use Rattle.root_laws.specs.prov_entry.declared.entry.Leaf.{Leaf}
use Rattle.root_laws.specs.merkle_tree.declared.limits.TheConstants.{MAX_LEAVES}
use Rattle.state_tree.specs.Covering.{Covers}
use Rattle.state_tree.specs.Leaves.{fresh_leaf, with_leaf_of}
use Rattle.state_tree.proofs.Covered.{stands}
use Rattle.state_tree.proofs.Threads.{IsNew, added, order_same}
use Rattle.state_tree.proofs.Together.{stale_grown, stale_same}
use Rattle.state_tree.proofs.tree.Tree.add_key.Goals as goal

pub invariant_of-self : goal.invariant_of-self
invariant_of-self c =
    let none = rw (← c.self.view_is) at c.requires.new in
    let err = c.in_err-add_leaf.ensures in
    record {
      in_order = order_same c.self.inside.leaves _ c.self.inside.order _ c.args.key c.self.invariant.in_order none err.leaves_err err.kept_err err.others;
      hashed = stale_same c.self.inside.leaves _ c.self.inside.levels c.self.inside.stale.list _ c.self.invariant.hashed err.leaves_err err.stale_err;
      room = omega (arith, c.self.invariant.room, err.room_err, ap length err.leaves_err);
    }

pub invariant_of-self-2 : goal.invariant_of-self-2
invariant_of-self-2 c =
    let leaves = c.self.inside.leaves in
    let ok = c.in_ok-add_leaf.ensures in
    let cover = subst (λ (ls : List Leaf). Covers ls c.args.key c.covering-cover.result) (sym c.self.view_is) c.covering-cover.ensures.covers in
    let new : IsNew leaves c.args.key = record { some = ok.lawful.some; absent = rw (← c.self.view_is) at c.requires.new } in
    let room : length leaves < MAX_LEAVES = rw (← c.self.view_is) at c.requires.room in
    let after = ok.leaves cover.leaf cover.held in
    record {
      in_order = (added leaves c.add_leaf.new.leaves c.self.inside.order c.add_leaf.new.order c.args.key c.covering-cover.result cover.leaf c.self.invariant.in_order cover cover.held new room ok.kept ok.others after).0;
      hashed = stale_grown leaves c.add_leaf.new.leaves c.self.inside.levels c.self.inside.stale.list c.add_leaf.new.stale.list c.args.key c.covering-cover.result cover.leaf c.self.invariant.hashed
          (stands leaves c.covering-cover.result cover.leaf cover.held).0 after ok.stale;
      room = omega (
        arith,
        ok.room,
        ap length after,
        length-set (leaves ++ record (fresh_leaf c.args.key) { next = cover.leaf.next } ∷ [])
            c.covering-cover.result
            (record cover.leaf { next = Some c.args.key }),
        length-append leaves (record (fresh_leaf c.args.key) { next = cover.leaf.next } ∷ []),
      );
    }

pub returns-clause-added : goal.returns-clause-added
returns-clause-added c =
    let leaves = c.self.inside.leaves in
    let ok = c.in_ok-add_leaf.ensures in
    let cover = subst (λ (ls : List Leaf). Covers ls c.args.key c.covering-cover.result) (sym c.self.view_is) c.covering-cover.ensures.covers in
    let new : IsNew leaves c.args.key = record { some = ok.lawful.some; absent = rw (← c.self.view_is) at c.requires.new } in
    let room : length leaves < MAX_LEAVES = rw (← c.self.view_is) at c.requires.room in
    (added leaves c.add_leaf.new.leaves c.self.inside.order c.add_leaf.new.order c.args.key c.covering-cover.result cover.leaf c.self.invariant.in_order cover cover.held new room ok.kept ok.others
    (ok.leaves cover.leaf cover.held)).1
    ∙ ap (λ (ls : List Leaf). with_leaf_of ls c.args.key) c.self.view_is
