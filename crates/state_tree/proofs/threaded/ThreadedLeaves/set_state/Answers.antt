use Rattle.std.proofs.Common.{◌∙◌, List, ap}
use Rattle.root_laws.specs.prov_entry.declared.entry.Leaf.{Leaf}
use Rattle.state_tree.specs.Leaves.{with_state}
use Rattle.state_tree.proofs.Entries.{state_threaded, state_set}
use Rattle.state_tree.proofs.threaded.ThreadedLeaves.set_state.Goals as goal

pub invariant_of-self : goal.invariant_of-self
invariant_of-self c =
    state_threaded c.self.inside.first c.self.inside.entries.entries c.args.state.now c.index.result.now c.entry_with_state.result c.self.invariant c.requires.own c.index.ensures c.entry_with_state.ensures

pub returns : goal.returns
returns c =
    state_set c.self.inside.first c.self.inside.entries.entries c.args.state.now c.index.result.now c.entry_with_state.result c.requires.own c.index.ensures c.entry_with_state.ensures
    ∙ ap (λ (leaves : List Leaf). with_state leaves c.args.state.now) c.self.view_is
