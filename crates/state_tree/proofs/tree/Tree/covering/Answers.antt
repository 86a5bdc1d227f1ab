use Rattle.std.proofs.Common.{List, ℕ, sym, subst}
use Rattle.root_laws.specs.prov_entry.declared.entry.Leaf.{Leaf}
use Rattle.state_tree.specs.Covering.{Covers}
use Rattle.state_tree.proofs.Covered.{covers}
use Rattle.state_tree.proofs.tree.Tree.covering.Goals as goal

pub returns-clause-covers : goal.returns-clause-covers
returns-clause-covers c =
    let found = covers c.self.inside.leaves c.self.inside.order c.args.key.now c.last_up_to.result c.self.invariant.in_order c.last_up_to.ensures in
    subst (λ (leaves : List Leaf). Covers leaves c.args.key.now c.unwrap_or.result) c.self.view_is
    (subst (λ (index : ℕ). Covers c.self.inside.leaves c.args.key.now index) (sym c.unwrap_or.ensures) found)
