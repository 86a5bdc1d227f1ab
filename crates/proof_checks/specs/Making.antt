-- For each query of a key, one proof is made of a ledger at a block: it can be spelled, and the
-- root accepts it.
use Rattle.std.specs.Prelude.{◌≡◌, ◌<◌, ◌≤◌, true, ℕ, List, length, map, reverse, slice_get}
use Rattle.std.specs.Prelude.{slice_index_or, Option, Some, None, Ok}
use Rattle.std.specs.List.{find, filter_map, position_or_len}
use Rattle.std.specs.Option.{option_map}
use Rattle.lc_base.specs.KeyBytes.{IsKey}
use Rattle.lc_base.specs.declared.digest.Digest.{Digest}
use Rattle.lc_base.specs.declared.row.Row.{Row}
use Rattle.lc_base.specs.declared.row.Dep.{Dep}
use Rattle.lc_base.specs.declared.answer.Kind.{Kind}
use Rattle.lc_base.specs.declared.answer.Kind.TheVariants.{Hist, Back, Fwd}
use Rattle.lc_base.specs.declared.answer.Query.{Query}
use Rattle.lc_base.specs.History.{up_to, latest, uses, scan}
use Rattle.skip_links.specs.Paths.{path}
use Rattle.proof_codec.specs.merkle_tree.Tree.{audit_path}
use Rattle.proof_codec.specs.merkle_tree.Climbing.{bytes_of}
use Rattle.root_laws.specs.prov_entry.declared.entry.Header.{Header}
use Rattle.root_laws.specs.prov_entry.declared.entry.Leaf.{Leaf}
use Rattle.root_laws.specs.Naming.{header_of, body_of}
use Rattle.root_laws.specs.Root.{keys_of, sentinel, leaves, digest_at, root_of}
use Rattle.root_laws.specs.WalkLaws.{is_version_in}
use Rattle.root_laws.specs.TypedLedger.{IsTypedHistory, IsTypedLedger}
use Rattle.proof_codec.specs.declared.proof.LeafProof.{LeafProof}
use Rattle.proof_codec.specs.declared.proof.Proof.{Proof}
use Rattle.proof_codec.specs.entry_views.Reading.{digest_of_bytes}
use Rattle.proof_codec.specs.Spelling.{IsProof}
use Rattle.proof_checks.specs.Checks.{covers, verdict}
use Rattle.proof_checks.specs.LedgerTexts.{texts_of_leaves}

-- The header of the key's version in a block.
abbrev pub header_in : List Row → List ℕ → ℕ → Option Header
header_in rows key block =
    option_map (header_of rows) (find (is_version_in key block) (reverse rows))

-- The headers of the versions on the path of a lookup.
abbrev pub path_headers : List Row → List ℕ → ℕ → List Header
path_headers rows key at = filter_map (header_in rows key) (path rows key at)

-- The uses, if the query asks for them.
abbrev pub uses_if : Kind → Option (List Dep) → Option (List Dep)
uses_if Hist list = None
uses_if Back list = None
uses_if Fwd list = list

-- The leaf proof is made of the rows of a ledger up to a block with this digest: it has the leaf that
-- covers the key, with its audit path.
pub record IsMadeLeaf (rows : List Row) (block : ℕ) (digest key : List ℕ) (leaf_proof : LeafProof) : Type 0 where
  pub root_at_is : leaf_proof.root_at ≡ block
  pub block_digest_is : leaf_proof.block_digest.0 ≡ digest
  pub leaf_count_is : leaf_proof.leaf_count ≡ length (leaves rows)
  pub leaf_is : slice_get (leaves rows) leaf_proof.leaf_index ≡ Some leaf_proof.leaf
  pub leaf_covers : covers key leaf_proof.leaf ≡ true
  pub audit_is : bytes_of leaf_proof.audit ≡ audit_path leaf_proof.leaf_index (texts_of_leaves (leaves rows))

-- The proof is made of the rows of a ledger up to a block with this digest. It has the leaf that
-- covers the key, with its audit path; the header of each version on the path of the lookup; the
-- body of the version that answers; and its uses, if the query asks for them.
pub record IsMade (rows : List Row) (block : ℕ) (digest : List ℕ) (proof : Proof) : Type 0 where
  pub leaf_proof_is : IsMadeLeaf rows block digest proof.query.key proof.leaf_proof
  pub headers_are : proof.headers ≡ path_headers rows proof.query.key proof.query.at
  pub body_is : proof.body ≡ option_map (body_of rows) (latest rows proof.query.key proof.query.at)
  pub uses_are : proof.uses ≡ uses_if proof.query.kind (option_map (λ (row : Row). uses rows proof.query.key row.block) (latest rows proof.query.key proof.query.at))

-- The proof is made of a ledger at a block: of the rows up to it.
abbrev pub IsMadeAt : List Row → List Digest → ℕ → Proof → Type 0
IsMadeAt rows digests block proof = IsMade (up_to rows block) block (digest_at digests block) proof

-- ---- the proof as a function

-- The index of the first leaf that covers a key, from 0; the number of leaves if none does.
abbrev pub covering_index : List Leaf → List ℕ → ℕ
covering_index leaves key = position_or_len (covers key) leaves

-- The first leaf that covers a key, or the leaf without a key if none does.
abbrev pub covering_leaf : List Row → List ℕ → Leaf
covering_leaf rows key =
    slice_index_or (leaves rows) (covering_index (leaves rows) key) (sentinel (keys_of rows))

-- The leaf proof for a key, made of the rows up to a block with this digest.
abbrev pub made_leaf : List Row → ℕ → List ℕ → List ℕ → LeafProof
made_leaf rows block digest key = record {
  root_at = block;
  block_digest = digest_of_bytes digest;
  leaf_count = length (leaves rows);
  leaf_index = covering_index (leaves rows) key;
  leaf = covering_leaf rows key;
  audit = map digest_of_bytes (audit_path (covering_index (leaves rows) key) (texts_of_leaves (leaves rows)));
}

-- The proof for a query, made of the rows up to a block with this digest.
abbrev pub made_of : List Row → ℕ → List ℕ → Query → Proof
made_of rows block digest query = record {
  query = query;
  leaf_proof = made_leaf rows block digest query.key;
  headers = path_headers rows query.key query.at;
  body = option_map (body_of rows) (latest rows query.key query.at);
  uses = uses_if query.kind (option_map (λ (row : Row). uses rows query.key row.block) (latest rows query.key query.at));
}

-- The proof for a query, made of a ledger at a block: of the rows up to it.
unfoldable pub made_proof : List Row → List Digest → ℕ → Query → Proof
made_proof rows digests block query =
    made_of (up_to rows block) block (digest_at digests block) query

-- ---- laws

-- `made_proof` returns a proof that is made of the ledger, if the query is of a key: some leaf
-- covers the key.
abbrev pub MadeProofIsMade : Type 0
MadeProofIsMade =
    (rows : List Row) (digests : List Digest) (block : ℕ) (query : Query) → IsTypedHistory rows → IsKey query.key
    → IsMadeAt rows digests block (made_proof rows digests block query) × ((made_proof rows digests block query).query ≡ query)

-- Only one proof is made for a query.
abbrev pub MadeProofsAreUnique : Type 0
MadeProofsAreUnique =
    (rows : List Row) (digests : List Digest) (block : ℕ) (proof other : Proof) → IsTypedHistory rows
    → IsMadeAt rows digests block proof → IsMadeAt rows digests block other → other.query ≡ proof.query → other ≡ proof

-- Whoever has the root at a block accepts the proof that is made of the ledger there, with the
-- answer of scanning the rows up to that block.
abbrev pub MadeProofsAreAccepted : Type 0
MadeProofsAreAccepted =
    (rows : List Row) (digests : List Digest) (block : ℕ) (proof : Proof) → IsTypedHistory rows → IsMadeAt rows digests block proof
    → verdict (root_of rows digests block) proof.query proof ≡ Ok (scan (up_to rows block) proof.query)

-- The proof can be spelled if the query is of a key and its block isn't after the root's.
abbrev pub MadeProofsAreProofs : Type 0
MadeProofsAreProofs =
    (rows : List Row) (digests : List Digest) (block : ℕ) (proof : Proof) → IsTypedLedger rows digests → block < length digests
    → IsKey proof.query.key → proof.query.at ≤ block → IsMadeAt rows digests block proof → IsProof proof

-- The result of `made_proof` can be spelled and is accepted if the query is of a key and its block
-- isn't after the root's.
abbrev pub MadeProofIsAccepted : Type 0
MadeProofIsAccepted =
    (rows : List Row) (digests : List Digest) (block : ℕ) (query : Query) → IsTypedLedger rows digests → block < length digests
    → IsKey query.key → query.at ≤ block
    → IsProof (made_proof rows digests block query) × (verdict (root_of rows digests block) query (made_proof rows digests block query) ≡ Ok (scan (up_to rows block) query))
