use Rattle.std.proofs.Common.{◌≡◌, ◌∙◌, ◌∷◌, [], ◌++◌, List, ap, sym, subst, refl, arith}
use Rattle.std.specs.Prelude.{slice_get}
use Rattle.lc_base.specs.declared.digest.Digest.{Digest}
use Rattle.root_laws.specs.prov_entry.declared.entry.Leaf.{Leaf}
use Rattle.root_laws.specs.Root.{sentinel}
use Rattle.state_tree.specs.Leaves.{leaf_hashes}
use Rattle.state_tree.specs.Order.{AreHashedBut}
use Rattle.state_tree.specs.Stale.{Indexes}
use Rattle.state_tree.proofs.Threads.{order_new}
use Rattle.state_tree.proofs.Together.{hashes_more, none_stale}
use Rattle.state_tree.proofs.tree.Tree.new.Goals as goal

pub invariant_of-result : goal.invariant_of-result
invariant_of-result c =
    let leaves = c.new-leaves.result in
    let all : leaf_hashes leaves ≡ leaf_hashes (sentinel [] ∷ []) = ap leaf_hashes c.new-leaves.ensures in
    let one = hashes_more (sentinel [] ∷ []) 0 c.leaf.result c.hash_of.result [] c.push.new.self refl (ap (λ (ls : List Leaf). slice_get ls 0) (sym c.new-leaves.ensures) ∙ c.leaf.ensures) c.hash_of.ensures.hash
    (c.in_ok-push.ensures.ok
    ∙ ap (λ (hashes : List Digest). hashes ++ c.hash_of.result ∷ []) c.in_ok-levels.ensures) in
    record {
      in_order = order_new leaves c.new-2.result c.new-leaves.ensures c.new-2.ensures.empty;
      hashed = subst (AreHashedBut leaves c.push.new.self) (sym (c.in_ok-make_room.ensures.same ∙ ap (λ (stale : Indexes). stale.list) c.new-stale.ensures))
          (none_stale leaves c.push.new.self (one ∙ sym all));
      room = omega (arith, c.in_ok-make_room.ensures.room, c.count.ensures.count);
    }
