-- A leaf from which an audit path leads to the root of a history is one of its leaves, unless two
-- texts clash.
use Rattle.std.proofs.Common.{◌≡◌, ◌∙◌, ℕ, ◌<◌, ◌^◌, List, [], ◌∷◌, ◌++◌, length, drop, get_or}
use Rattle.std.proofs.Common.{Some, None, refl, sym, ap, subst, arith, inl, inr}
use Rattle.std.specs.List.{All, Contains}
use Rattle.std.proofs.lemmas.List.{length-map, get_or-map}
use Rattle.std.proofs.lemmas.List.Elements.{Contains-get_or}
use Rattle.std.proofs.lemmas.Option.{slice_get-get_or}
use Rattle.sha2.specs.Sha256.{sha256}
use Rattle.sha2.proofs.Facts256.{length-sha256}
use Rattle.lc_base.specs.declared.row.Row.{Row}
use Rattle.lc_base.specs.History.{IsLawful, up_to}
use Rattle.proof_codec.specs.merkle_tree.Tree.{leaf_text, tree_hash, node_texts, climb_texts_to}
use Rattle.proof_codec.specs.merkle_tree.Climbing.{top_of}
use Rattle.proof_codec.specs.merkle_tree.Clash.{Agree}
use Rattle.proof_codec.specs.merkle_tree.Levels.{digest_of}
use Rattle.proof_codec.specs.merkle_tree.declared.limits.TheConstants.{MAX_HEIGHT}
use Rattle.proof_codec.proofs.merkle_tree.Agreeing.{agree_or_clash}
use Rattle.proof_codec.proofs.merkle_tree.Sound.{length-climb, length-tree}
use Rattle.proof_codec.proofs.merkle_tree.TheLaws.{paths_are_sound}
use Rattle.root_laws.specs.prov_entry.declared.entry.Leaf.{Leaf}
use Rattle.root_laws.specs.prov_entry.Spelling.{leaf_bytes}
use Rattle.proof_codec.specs.entry_views.Leaves.{leaf_field}
use Rattle.proof_codec.proofs.entry_views.Determined.{determined}
use Rattle.proof_codec.specs.declared.proof.LeafProof.{LeafProof}
use Rattle.proof_codec.specs.Spelling.{IsLeafProof}
use Rattle.root_laws.specs.Root.{keys_of, leaf_of, leaves, root_text, root_of, digest_at}
use Rattle.root_laws.specs.TypedLedger.{IsTypedRow}
use Rattle.root_laws.proofs.Keys.{same_key, keys_short}
use Rattle.root_laws.proofs.Parts.{lawful_up_to, rows_up_to}
use Rattle.root_laws.proofs.Spellings.{leaf_cases, one_lawful, IsOneOf}
use Rattle.proof_checks.specs.declared.reject.Reject.TheVariants as rejects
use Rattle.proof_checks.specs.Checks.{climb_of, root_text_of, root_fault}
use Rattle.proof_checks.specs.ProofTexts.{joined_texts, leaf_proof_parts, leaf_proof_texts}
use Rattle.proof_checks.specs.LedgerTexts.{texts_of_leaves, history_parts, ledger_texts}
use Rattle.proof_checks.specs.Soundness.{ShowsLeaf, LeafProofsShowLeaves}
use Rattle.proof_checks.proofs.Tests.{passed}
use Rattle.proof_checks.proofs.Parts.{alone, in_part, in_map, agree_parts}
use Rattle.proof_checks.proofs.Rooted.{same_root}

module _ (rows : List Row) (block : ℕ) (digest root : List ℕ) (lawful : IsLawful rows) (are : All IsTypedRow rows) (block_fits : block < 2 ^ 32) (root_is : sha256 (root_text block digest (leaves rows)) ≡ root)
    (least : ℕ) (leaf_proof : LeafProof) (is : IsLeafProof least leaf_proof) (leads : root_fault root leaf_proof ≡ None)
    (agree : Agree (joined_texts (leaf_proof_parts leaf_proof)) (joined_texts (history_parts rows block digest))) where
  abbrev count : ℕ
  count = leaf_proof.leaf_count

  abbrev index : ℕ
  index = leaf_proof.leaf_index

  abbrev own_text : List ℕ
  own_text = leaf_text (leaf_bytes leaf_proof.leaf)

  abbrev texts : List (List ℕ)
  texts = texts_of_leaves (leaves rows)

  texts_counted : length texts ≡ length (leaves rows)
  texts_counted = length-map (leaves rows) (λ (leaf : Leaf). leaf_text (leaf_bytes leaf))

  few_leaves : length (leaves rows) < 2 ^ 32
  few_leaves = let few = keys_short [] rows in omega (arith, few, lawful.few, length-map (keys_of rows) (leaf_of rows))

  -- Both roots have the same text.
  same_roots : root_text_of leaf_proof ≡ root_text block digest (leaves rows)
  same_roots = agree.same (root_text_of leaf_proof) (root_text block digest (leaves rows))
      (in_part (leaf_proof_parts leaf_proof) 2 (root_text_of leaf_proof ∷ []) (root_text_of leaf_proof) refl (alone (root_text_of leaf_proof)))
      (in_part (history_parts rows block digest) 2 (root_text block digest (leaves rows) ∷ []) (root_text block digest (leaves rows)) refl (alone (root_text block digest (leaves rows))))
      (same_key (sha256 (root_text_of leaf_proof)) root (passed _ (rejects.RootDiffers (digest_of (root_text_of leaf_proof))) leads) ∙ sym root_is)

  root_parts : (leaf_proof.root_at ≡ block) × (count ≡ length (leaves rows)) × (top_of index count (climb_of leaf_proof) ≡ tree_hash texts)
  root_parts = same_root leaf_proof.root_at block leaf_proof.block_digest.0 digest count (length (leaves rows)) (top_of index count (climb_of leaf_proof)) (tree_hash texts)
      is.root_at_fits block_fits is.leaf_count_fits few_leaves
      (length-climb MAX_HEIGHT index count (climb_of leaf_proof) (length-sha256 own_text)) (length-tree MAX_HEIGHT texts) same_roots

  counted : length texts ≡ count
  counted = texts_counted ∙ sym root_parts.1

  within : index < length (leaves rows)
  within = omega (arith, root_parts.1, is.leaf_within)

  same_hash : sha256 own_text ≡ sha256 (get_or texts index [])
  same_hash = paths_are_sound index (climb_of leaf_proof) texts (omega (arith, texts_counted, few_leaves)) (omega (arith, counted, is.leaf_within)) (length-sha256 own_text)
      (subst (λ (n : ℕ). Agree (climb_texts_to MAX_HEIGHT index n (climb_of leaf_proof)) (node_texts texts)) (sym counted)
      (agree_parts (joined_texts (leaf_proof_parts leaf_proof)) (joined_texts (history_parts rows block digest)) (climb_texts_to MAX_HEIGHT index count (climb_of leaf_proof)) (node_texts texts) agree
      (λ text has. in_part (leaf_proof_parts leaf_proof) 1 (climb_texts_to MAX_HEIGHT index count (climb_of leaf_proof)) text refl has)
      (λ text has. in_part (history_parts rows block digest) 1 (node_texts texts) text refl has)))
      (ap (λ (n : ℕ). top_of index n (climb_of leaf_proof)) counted ∙ root_parts.2)

  -- The history's leaf at the same index.
  history_leaf : Leaf
  history_leaf = get_or (leaves rows) index leaf_proof.leaf

  history_there : Contains (leaves rows) history_leaf
  unfolding history_leaf
  history_there = Contains-get_or (leaves rows) index leaf_proof.leaf within

  history_text : get_or texts index [] ≡ leaf_text (leaf_bytes history_leaf)
  unfolding history_leaf
  history_text = get_or-map (λ (leaf : Leaf). leaf_text (leaf_bytes leaf)) (leaves rows) index leaf_proof.leaf [] within

  leaf_is : leaf_proof.leaf ≡ history_leaf
  leaf_is =
      let same : own_text ≡ leaf_text (leaf_bytes history_leaf) = agree.same own_text (leaf_text (leaf_bytes history_leaf))
      (in_part (leaf_proof_parts leaf_proof) 0 (own_text ∷ []) own_text refl (alone own_text))
      (in_part (history_parts rows block digest) 0 texts (leaf_text (leaf_bytes history_leaf)) refl (in_map (λ (leaf : Leaf). leaf_text (leaf_bytes leaf)) (leaves rows) history_leaf history_there))
      (same_hash ∙ ap sha256 history_text) in
      (determined leaf_field leaf_proof.leaf history_leaf [] [] is.leaf_is_leaf (one_lawful rows lawful are history_leaf (leaf_cases rows lawful are history_leaf history_there)) (ap (λ (t : List ℕ). drop 1 t ++ []) same)).0

  pub leaf_told : IsOneOf rows lawful are leaf_proof.leaf
  leaf_told = subst (λ (leaf : Leaf). IsOneOf rows lawful are leaf) (sym leaf_is) (leaf_cases rows lawful are history_leaf history_there)

  leaf_shown : ShowsLeaf rows block leaf_proof
  unfolding history_leaf
  leaf_shown = (root_parts.0, slice_get-get_or (leaves rows) index leaf_proof.leaf within ∙ ap (λ (leaf : Leaf). Some leaf) (sym leaf_is))

pub shows_leaf : LeafProofsShowLeaves
unfolding leaf_proof_texts ledger_texts root_of
shows_leaf root least leaf_proof is leads rows digests block history fits root_is = elim (agree_or_clash (leaf_proof_texts leaf_proof) (ledger_texts rows digests block)) [
  | inr clash ↦ inr clash
  | inl agree ↦ inl (leaf_shown (up_to rows block) block (digest_at digests block) root (lawful_up_to rows block history.lawful) (rows_up_to rows block history.typed) fits root_is least leaf_proof is leads agree)
]
