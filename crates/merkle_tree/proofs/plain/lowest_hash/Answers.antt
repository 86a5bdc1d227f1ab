use Rattle.std.proofs.Common.{◌∙◌, sym, refl, arith}
use Rattle.merkle_tree.proofs.Steps.{one_leaf, no_leaf}
use Rattle.merkle_tree.proofs.plain.lowest_hash.Goals as goal

pub returns-in-empty : goal.returns-in-empty
returns-in-empty g c = c.empty_hash.ensures ∙ sym (no_leaf g.L.TreeLeaf.text c.args.leaves.now (omega arith))

pub returns-in-len1-up : goal.returns-in-len1-up
returns-in-len1-up g c =
    c.hash.ensures ∙ sym (one_leaf g.L.TreeLeaf.text 0 c.leaf-item.result c.args.leaves.now refl (omega arith) c.leaf-item.is)
