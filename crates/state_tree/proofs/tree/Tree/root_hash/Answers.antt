use Rattle.std.proofs.Common.{◌∙◌, sym, arith}
use Rattle.std.proofs.lemmas.Bool.{eqb-true}
use Rattle.state_tree.specs.Leaves.{leaf_texts}
use Rattle.state_tree.proofs.Together.{texts_hashed}
use Rattle.state_tree.proofs.tree.Tree.root_hash.Goals as goal

pub returns-then-is_empty : goal.returns-then-is_empty
returns-then-is_empty c =
    c.root.ensures (leaf_texts c.args.self.now)
    (texts_hashed c.self.inside.leaves c.args.self.now c.self.inside.levels c.self.inside.stale.list c.self.invariant.hashed (omega (arith, eqb-true _ 0 (sym c.is_empty.ensures ∙ c.if-is_empty.true))) c.self.view_is)
