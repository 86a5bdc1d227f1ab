use Rattle.std.proofs.Common.{ℕ, List, [], ◌∷◌, ◌++◌, ap, ◌∙◌}
use Rattle.merkle_tree.specs.Tree.{leaf_text}
use Rattle.prov_entry.specs.declared.entry.Leaf.{Leaf}
use Rattle.prov_entry.specs.Spelling.{leaf_bytes}
use Rattle.text_clashes.proofs.Parts.{leaf_parts}
use Rattle.text_clashes.proofs.proof.push_leaf_proof.Goals as goal

pub returns : goal.returns
returns c =
    leaf_parts c.args.leaf_proof.now c.args.texts.now c.push_leaf.new.texts c.push_upward.new.texts
    (c.in_ok-push_leaf.ensures ∙ ap (λ (leaf : Leaf). c.args.texts.now ++ leaf_text (leaf_bytes leaf) ∷ []) c.leaf.ensures)
    c.in_ok-push_upward.ensures
