-- The texts that are hashed for the root of a ledger at a block.
use Rattle.std.specs.Prelude.{ℕ, List, [], ◌∷◌, map}
use Rattle.std.specs.List.{flat_map}
use Rattle.lc_base.specs.declared.digest.Digest.{Digest}
use Rattle.lc_base.specs.declared.row.Row.{Row}
use Rattle.lc_base.specs.History.{up_to, uses}
use Rattle.proof_codec.specs.merkle_tree.Tree.{leaf_text, node_texts}
use Rattle.root_laws.specs.prov_entry.declared.entry.Leaf.{Leaf}
use Rattle.root_laws.specs.prov_entry.Spelling.{leaf_bytes, header_text, body_text}
use Rattle.root_laws.specs.prov_entry.ForwardLists.{start_text}
use Rattle.root_laws.specs.Naming.{header_of, body_of}
use Rattle.root_laws.specs.Root.{leaves, root_text, digest_at}
use Rattle.proof_checks.specs.ProofTexts.{joined_texts, texts_of_uses}

-- The texts of leaves.
abbrev pub texts_of_leaves : List Leaf → List (List ℕ)
texts_of_leaves leaves = map (λ (leaf : Leaf). leaf_text (leaf_bytes leaf)) leaves

-- The texts of the header and the body of a row.
abbrev pub texts_of_row : List Row → Row → List (List ℕ)
texts_of_row rows row = header_text (header_of rows row) ∷ body_text (body_of rows row) ∷ []

-- The texts of the forward list of a row.
abbrev pub texts_of_row_uses : List Row → Row → List (List ℕ)
texts_of_row_uses rows row = texts_of_uses (uses rows row.key row.block)

-- The texts of a history up to a block with this digest, in parts: the leaves, the nodes of the
-- tree over them, the root, the header and the body of each row, the empty forward list, and the
-- uses of each row.
abbrev pub history_parts : List Row → ℕ → List ℕ → List (List (List ℕ))
history_parts rows block digest =
    texts_of_leaves (leaves rows) ∷ node_texts (texts_of_leaves (leaves rows)) ∷ (root_text block digest (leaves rows) ∷ [])
    ∷ flat_map (texts_of_row rows) rows ∷ (start_text ∷ []) ∷ flat_map (texts_of_row_uses rows) rows ∷ []

-- The texts of a ledger at a block: those of the rows up to it.
unfoldable pub ledger_texts : List Row → List Digest → ℕ → List (List ℕ)
ledger_texts rows digests block = joined_texts (history_parts (up_to rows block) block (digest_at digests block))
