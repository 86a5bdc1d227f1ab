-- A leaf proof made of a history leads to its root, can be spelled, and is the only one for its key.
use Rattle.std.proofs.Common.{◌≡◌, ◌∙◌, ℕ, zero, suc, ◌-◌, ◌<◌, ◌≤◌, ◌^◌, true, false, ◌==◌, nat_lt}
use Rattle.std.proofs.Common.{List, [], ◌∷◌, length, take, drop, get_or, slice_get, Option, Some}
use Rattle.std.proofs.Common.{None, is_none, refl, sym, ap, ap₂, subst, arith, inl, inr}
use Rattle.std.specs.List.{All, AllByRecursion}
use Rattle.std.specs.Option.{option_map}
use Rattle.std.specs.Cmp.Lexicographic.{pointwise}
use Rattle.std.proofs.lemmas.Bool.{cases_Bool, ne_eqb}
use Rattle.std.proofs.lemmas.Option.{none-some, same_Some, slice_get-map, slice_get_within}
use Rattle.std.proofs.lemmas.Option.{get_or_from_slice_get}
use Rattle.std.proofs.lemmas.List.{length-map}
use Rattle.sha2.specs.Sha256.{sha256}
use Rattle.lc_base.specs.declared.digest.Digest.{Digest}
use Rattle.lc_base.specs.declared.row.Row.{Row}
use Rattle.lc_base.specs.History.{IsLawful}
use Rattle.proof_codec.specs.merkle_tree.Tree.{leaf_text, tree_hash, hash_to, audit_to, audit_path}
use Rattle.proof_codec.specs.merkle_tree.Tree.{audit_length, Climb}
use Rattle.proof_codec.specs.merkle_tree.Climbing.{bytes_of, top_of}
use Rattle.proof_codec.specs.merkle_tree.declared.limits.TheConstants.{MAX_HEIGHT}
use Rattle.proof_codec.proofs.merkle_tree.Sound.{length-tree}
use Rattle.proof_codec.proofs.merkle_tree.Rules.{paths_have_their_length}
use Rattle.proof_codec.proofs.merkle_tree.TheLaws.{paths_are_complete}
use Rattle.root_laws.specs.prov_entry.declared.entry.Leaf.{Leaf}
use Rattle.root_laws.specs.prov_entry.Spelling.{leaf_bytes, text_of_root}
use Rattle.root_laws.specs.Root.{keys_of, sentinel, leaf_of, leaves, root_text}
use Rattle.root_laws.specs.TypedLedger.{IsTypedRow}
use Rattle.root_laws.proofs.Lists.{all_append}
use Rattle.root_laws.proofs.Keys.{key_is_key, keys_short}
use Rattle.root_laws.proofs.Spellings.{leaf_cases, one_lawful, IsOneOf}
use Rattle.proof_codec.specs.declared.proof.LeafProof.{LeafProof}
use Rattle.proof_codec.specs.Spelling.{IsDigest, IsLeafProof}
use Rattle.proof_checks.specs.Checks.{climb_of, root_text_of, root_fault}
use Rattle.proof_checks.specs.LedgerTexts.{texts_of_leaves}
use Rattle.proof_checks.specs.Making.{IsMadeLeaf}

abbrev climb_from : List ℕ → List (List ℕ) → Climb
climb_from text left = record { hash = sha256 text; left = left }

same_text : (a a' : ℕ) (d d' : List ℕ) (n n' : ℕ) (h h' : List ℕ) → a ≡ a' → d ≡ d' → n ≡ n'
    → h ≡ h' → text_of_root a d n h ≡ text_of_root a' d' n' h'
same_text a a' d d' n n' h h' a_is d_is n_is h_is = rw (a_is, d_is, n_is, h_is) refl

IsHash : List ℕ → Type 0
IsHash hash = length hash ≡ 32

audit_is_long : (j m : ℕ) (texts : List (List ℕ)) → AllByRecursion IsHash (audit_to j m texts)
unfolding audit_to IsHash
audit_is_long zero m texts = tt
audit_is_long (suc j) m texts = elim (cases_Bool (nat_lt (2 ^ j) (length texts))) [
  | inr low ↦ rw low (audit_is_long j m texts)
  | inl high ↦ elim (cases_Bool (nat_lt m (2 ^ j))) [
    | inl left ↦ rw (high, left) (all_append IsHash (audit_to j m (take (2 ^ j) texts)) (hash_to j (drop (2 ^ j) texts) ∷ []) (audit_is_long j m (take (2 ^ j) texts)) (length-tree j (drop (2 ^ j) texts), tt))
    | inr right ↦ rw (high, right) (all_append IsHash (audit_to j (m - 2 ^ j) (drop (2 ^ j) texts)) (hash_to j (take (2 ^ j) texts) ∷ []) (audit_is_long j (m - 2 ^ j) (drop (2 ^ j) texts)) (length-tree j (take (2 ^ j) texts), tt))
  ]
]

digests_of : (audit : List Digest) → AllByRecursion IsHash (bytes_of audit)
    → AllByRecursion IsDigest audit
unfolding IsHash
digests_of [] all = tt
digests_of (digest ∷ audit) all = (all.0, digests_of audit all.1)

key_at : (rows : List Row) (index : ℕ) (leaf : Leaf) → slice_get (leaves rows) index ≡ Some leaf
    → is_none leaf.key ≡ (index == 0)
key_at rows zero leaf e =
    ap (λ (l : Leaf). is_none l.key) (sym (same_Some (sentinel (keys_of rows)) leaf e))
key_at rows (suc index) leaf e = go (slice_get (keys_of rows) index) (sym (slice_get-map (leaf_of rows) (keys_of rows) index) ∙ e) ∙ sym (ne_eqb (suc index) 0 (λ no. omega (arith, no)))
  where
    go : (o : Option (List ℕ)) → option_map (leaf_of rows) o ≡ Some leaf → is_none leaf.key ≡ false
    go None e = absurd (none-some leaf e)
    go (Some key) e = ap (λ (l : Leaf). is_none l.key) (sym (same_Some (leaf_of rows key) leaf e))

module _ (rows : List Row) (block : ℕ) (digest key : List ℕ) (leaf_proof : LeafProof) (lawful : IsLawful rows) (made : IsMadeLeaf rows block digest key leaf_proof) where
  abbrev count : ℕ
  count = leaf_proof.leaf_count

  abbrev index : ℕ
  index = leaf_proof.leaf_index

  abbrev texts : List (List ℕ)
  texts = texts_of_leaves (leaves rows)

  texts_counted : length texts ≡ length (leaves rows)
  texts_counted = length-map (leaves rows) (λ (leaf : Leaf). leaf_text (leaf_bytes leaf))

  few_leaves : length (leaves rows) < 2 ^ 32
  few_leaves = let few = keys_short [] rows in omega (arith, few, lawful.few, length-map (keys_of rows) (leaf_of rows))

  within : index < length (leaves rows)
  within = slice_get_within (leaves rows) index leaf_proof.leaf made.leaf_is

  -- ---- it leads to the root

  own_text : get_or texts index [] ≡ leaf_text (leaf_bytes leaf_proof.leaf)
  own_text = get_or_from_slice_get texts index (leaf_text (leaf_bytes leaf_proof.leaf)) []
      (slice_get-map (λ (leaf : Leaf). leaf_text (leaf_bytes leaf)) (leaves rows) index ∙ ap (option_map (λ (leaf : Leaf). leaf_text (leaf_bytes leaf))) made.leaf_is)

  top : top_of index count (climb_of leaf_proof) ≡ tree_hash texts
  top =
      let start : climb_of leaf_proof ≡ climb_from (get_or texts index []) (audit_path index texts) = ap₂ climb_from (sym own_text) made.audit_is in
      ap (λ (n : ℕ). top_of index n (climb_of leaf_proof)) (made.leaf_count_is ∙ sym texts_counted)
      ∙ ap (top_of index (length texts)) start
      ∙ ap (λ (climb : Climb). climb.hash) (paths_are_complete index texts (omega (arith, texts_counted, few_leaves)) (omega (arith, texts_counted, within)))

  pub made_root : root_fault (sha256 (root_text block digest (leaves rows))) leaf_proof ≡ None
  made_root =
      let same : root_text_of leaf_proof ≡ root_text block digest (leaves rows) =
      same_text leaf_proof.root_at block leaf_proof.block_digest.0 digest count (length (leaves rows)) (top_of index count (climb_of leaf_proof)) (tree_hash texts) made.root_at_is made.block_digest_is made.leaf_count_is top in
      let t : pointwise ◌==◌ (sha256 (root_text_of leaf_proof)) (sha256 (root_text block digest (leaves rows))) ≡ true =
      ap (λ (text : List ℕ). pointwise ◌==◌ (sha256 text) (sha256 (root_text block digest (leaves rows)))) same ∙ key_is_key (sha256 (root_text block digest (leaves rows))) in
      rw t refl

  -- ---- it has one of the leaves, and can be spelled

  pub made_one : (are : All IsTypedRow rows) → IsOneOf rows lawful are leaf_proof.leaf
  made_one are = leaf_cases rows lawful are leaf_proof.leaf (index, within, get_or_from_slice_get (leaves rows) index leaf_proof.leaf leaf_proof.leaf made.leaf_is)

  pub made_leaf_is_lawful : (are : All IsTypedRow rows) → block < 2 ^ 32 → (least : ℕ)
      → least ≤ block → length digest ≡ 32 → IsLeafProof least leaf_proof
  made_leaf_is_lawful are fits least low long = record {
    root_at_fits = omega (arith, made.root_at_is, fits);
    root_at_within = omega (arith, made.root_at_is, low);
    block_digest_fits = ap (λ (d : List ℕ). length d) made.block_digest_is ∙ long;
    leaf_count_fits = omega (arith, made.leaf_count_is, few_leaves);
    leaf_within = omega (arith, made.leaf_count_is, within);
    leaf_is_leaf = one_lawful rows lawful are leaf_proof.leaf (made_one are);
    first_without_key = key_at rows index leaf_proof.leaf made.leaf_is;
    audit_counted =
        sym (length-map leaf_proof.audit (λ (d : Digest). d.0)) ∙ ap (λ (t : List (List ℕ)). length t) made.audit_is
        ∙ paths_have_their_length index texts (omega (arith, texts_counted, few_leaves)) (omega (arith, texts_counted, within))
        ∙ ap (audit_length index) (texts_counted ∙ sym made.leaf_count_is);
    audit_fits = digests_of leaf_proof.audit (subst (AllByRecursion IsHash) (sym made.audit_is) (audit_is_long MAX_HEIGHT index texts));
  }
