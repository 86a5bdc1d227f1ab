-- The texts that a proof shows: what its reader hashes to check it.
use Rattle.std.specs.Prelude.{ℕ, List, [], ◌∷◌, ◌++◌, map, Option, Some, None}
use Rattle.std.specs.List.{flat_map}
use Rattle.lc_base.specs.declared.row.Dep.{Dep}
use Rattle.proof_codec.specs.merkle_tree.Tree.{leaf_text, climb_texts_to}
use Rattle.proof_codec.specs.merkle_tree.Chains.{chain_texts}
use Rattle.proof_codec.specs.merkle_tree.declared.limits.TheConstants.{MAX_HEIGHT}
use Rattle.root_laws.specs.prov_entry.declared.entry.Body.{Body}
use Rattle.root_laws.specs.prov_entry.Spelling.{leaf_bytes, header_text, body_text}
use Rattle.root_laws.specs.prov_entry.ForwardLists.{start_text, no_uses, use_text}
use Rattle.proof_codec.specs.declared.proof.LeafProof.{LeafProof}
use Rattle.proof_codec.specs.declared.proof.Proof.{Proof}
use Rattle.proof_checks.specs.Checks.{climb_of, root_text_of}

-- Lists of texts, one after another.
abbrev pub joined_texts : List (List (List ℕ)) → List (List ℕ)
joined_texts parts = flat_map (λ (texts : List (List ℕ)). texts) parts

-- The texts that are hashed for the digest of a forward list, without that of the empty list.
abbrev pub texts_of_uses : List Dep → List (List ℕ)
texts_of_uses uses = chain_texts use_text no_uses uses

-- The text of the body, if there is one.
abbrev pub body_texts : Option Body → List (List ℕ)
body_texts None = []
body_texts (Some body) = body_text body ∷ []

-- The texts of the uses, if there are any.
abbrev pub uses_texts : Option (List Dep) → List (List ℕ)
uses_texts None = []
uses_texts (Some uses) = texts_of_uses uses

-- The texts of a leaf proof, in parts: the leaf, the nodes from it upward, and the root.
abbrev pub leaf_proof_parts : LeafProof → List (List (List ℕ))
leaf_proof_parts leaf_proof =
    (leaf_text (leaf_bytes leaf_proof.leaf) ∷ []) ∷ climb_texts_to MAX_HEIGHT leaf_proof.leaf_index leaf_proof.leaf_count (climb_of leaf_proof) ∷ (root_text_of leaf_proof ∷ []) ∷ []

-- The texts of a leaf proof.
unfoldable pub leaf_proof_texts : LeafProof → List (List ℕ)
leaf_proof_texts leaf_proof = joined_texts (leaf_proof_parts leaf_proof)

-- The texts of a proof, in parts: those of its leaf proof, the headers, the body, the empty forward
-- list, and the uses.
abbrev pub proof_parts : Proof → List (List (List ℕ))
proof_parts proof =
    leaf_proof_parts proof.leaf_proof ++ map header_text proof.headers ∷ body_texts proof.body ∷ (start_text ∷ []) ∷ uses_texts proof.uses ∷ []

-- The texts of a proof.
unfoldable pub proof_texts : Proof → List (List ℕ)
proof_texts proof = joined_texts (proof_parts proof)
