use Rattle.std.proofs.Common.{ℕ, List, [], Option, Some, ◌∙◌, ap, sym, arith}
use Rattle.root_laws.specs.prov_entry.declared.entry.Leaf.{Leaf}
use Rattle.state_tree.specs.Entries.{KeyEntry, leaf_of_entry}
use Rattle.state_tree.proofs.Entries.{leaf_past}
use Rattle.state_tree.proofs.threaded.leaf_at.Goals as goal

pub returns : goal.returns
returns c =
    let entry : KeyEntry = (c.in-Some.key.now, c.in-Some.entry.now) in
    leaf_past c.args.first c.args.entries.now.entries c.args.index entry
    (omega (arith, c.if-index-eq0.false)) (sym c.in-Some.ensures.entry)
    ∙ ap (λ (leaf : Leaf). Some leaf)
    (ap (λ (next : Option (List ℕ)). record (leaf_of_entry [] entry) { next = next })
    (sym c.key_at-in-Some.ensures) ∙ sym c.leaf_of.ensures)
