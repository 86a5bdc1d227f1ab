use Rattle.std.proofs.Common.{◌<◌, length, arith}
use Rattle.state_tree.proofs.Together.{tree_set}
use Rattle.state_tree.proofs.tree.Tree.set_leaf.Goals as goal

pub mark-requires : goal.mark-requires
mark-requires c =
    let below : c.args.state.now.index < length c.self.inside.leaves = rw (← c.self.view_is) at c.requires.below in
    omega (arith, below, c.self.invariant.room)

pub invariant_of-self : goal.invariant_of-self
invariant_of-self c =
    let below : c.args.state.now.index < length c.self.inside.leaves = rw (← c.self.view_is) at c.requires.below in
    tree_set c.self.inside.leaves c.set_state.new.self c.self.inside.order c.self.inside.levels c.self.inside.stale c.mark.new.self c.args.state.now
    c.self.invariant c.requires.own below c.set_state.ensures c.mark.ensures.count c.mark.ensures.list
