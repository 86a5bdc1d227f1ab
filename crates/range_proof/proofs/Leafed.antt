-- The leaf that is found covers the key, so the leaf proof is the one that is made.
use Rattle.std.proofs.Common.{◌≡◌, ◌∙◌, ℕ, ◌<◌, List, length, slice_get, Some, refl, ap, subst}
use Rattle.std.proofs.Common.{arith}
use Rattle.lc_base.specs.KeyBytes.{IsKey}
use Rattle.lc_base.specs.declared.digest.Digest.{Digest}
use Rattle.lc_base.specs.declared.row.Row.{Row}
use Rattle.merkle_tree.specs.Tree.{audit_path}
use Rattle.merkle_tree.specs.Climbing.{bytes_of}
use Rattle.prov_entry.specs.declared.entry.Leaf.{Leaf}
use Rattle.root_laws.specs.Root.{leaves}
use Rattle.root_laws.specs.TypedLedger.{IsTypedHistory}
use Rattle.state_tree.specs.Leaves.{leaf_texts}
use Rattle.state_tree.specs.Covering.{Covers}
use Rattle.proof_codec.specs.declared.proof.LeafProof.{LeafProof}
use Rattle.proof_checks.specs.Making.{made_leaf}
use Rattle.proof_checks.proofs.MadeOnce.{made_leaf_once}
use Rattle.proof_checks.proofs.MadeThere.{made_leaf_is_made}
use Rattle.answer_proof.proofs.Covered.{covers_key}

module _ (rows : List Row) (block : ℕ) (key : List ℕ) (block_digest : Digest)
    (tree : List Leaf) (count index : ℕ) (leaf : Leaf) (audit : List Digest)
    (history : IsTypedHistory rows) (is_key : IsKey key)
    (tree_is : tree ≡ leaves rows) (count_is : count ≡ length tree)
    (covering : Covers tree key index) (leaf_is : slice_get tree index ≡ Some leaf)
    (audit_is : bytes_of audit ≡ audit_path index (leaf_texts tree)) where
  abbrev given : LeafProof
  given = record {
    root_at = block;
    block_digest = block_digest;
    leaf_count = count;
    leaf_index = index;
    leaf = leaf;
    audit = audit;
  }

  some : 0 < length key
  some = omega (arith, is_key.some)

  at_leaf : slice_get (leaves rows) index ≡ Some leaf
  at_leaf = subst (λ (ls : List Leaf). slice_get ls index ≡ Some leaf) tree_is leaf_is

  pub leaf_made : given ≡ made_leaf rows block block_digest.0 key
  leaf_made =
      made_leaf_once rows block block_digest.0 key (made_leaf rows block block_digest.0 key) given
      history.lawful history.typed (made_leaf_is_made rows block block_digest.0 key some) (record {
        root_at_is = refl;
        block_digest_is = refl;
        leaf_count_is = count_is ∙ ap (λ (ls : List Leaf). length ls) tree_is;
        leaf_is = at_leaf;
        leaf_covers =
            covers_key rows key index leaf history.lawful history.typed some at_leaf
            (subst (λ (ls : List Leaf). Covers ls key index) tree_is covering);
        audit_is =
            audit_is ∙ ap (λ (ls : List Leaf). audit_path index (leaf_texts ls)) tree_is;
      })
