use Rattle.std.proofs.Common.{◌∙◌, ap, sym}
use Rattle.std.proofs.lemmas.Option.{get_or_from_slice_get}
use Rattle.root_laws.specs.merkle_tree.declared.setting_all.HashAt.{HashAt}
use Rattle.lc_base.specs.declared.digest.Digest.{Digest}
use Rattle.state_tree.proofs.Together.{leaf_digest, hash_there}
use Rattle.state_tree.proofs.hashing.hash_at.Goals as goal

pub returns : goal.returns
returns c =
    let leaf = c.leaf.result in
    ap (λ (hash : Digest). let one : HashAt = record { index = c.args.index; hash = hash } in one)
    (c.hash_of.ensures.hash
    ∙ ap leaf_digest (sym
    (get_or_from_slice_get c.args.leaves.now c.args.index leaf leaf c.leaf.ensures))
    ∙ sym (hash_there c.args.leaves.now c.args.index leaf c.requires))
