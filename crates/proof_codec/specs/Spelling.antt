-- A proof is spelled as a list of fields in a fixed order; which optional parts it has follows from
-- its other fields.
use Rattle.std.specs.Prelude.{◌≡◌, ℕ, ◌^◌, ◌<◌, ◌≤◌, ◌==◌, Bool, false, nat_le, is_none, is_some}
use Rattle.std.specs.Prelude.{List, [], ◌∷◌, ◌++◌, length, Option, Some, None}
use Rattle.std.specs.List.{flat_map, AllByRecursion}
use Rattle.std.specs.Int.{w32, to_be_bytes}
use Rattle.lc_base.specs.KeyBytes.{IsKey}
use Rattle.lc_base.specs.declared.digest.Digest.{Digest}
use Rattle.lc_base.specs.declared.row.Dep.{Dep}
use Rattle.lc_base.specs.declared.answer.Kind.{Kind}
use Rattle.lc_base.specs.declared.answer.Kind.TheVariants.{Hist, Back, Fwd}
use Rattle.lc_base.specs.declared.answer.Query.{Query}
use Rattle.entry_views.specs.byte_fields.Spelling.{string_fields}
use Rattle.merkle_tree.specs.Tree.{audit_length}
use Rattle.entry_views.specs.prov_entry.declared.entry.Header.{Header}
use Rattle.entry_views.specs.prov_entry.Spelling.{IsHeader, IsBody, IsLeaf, header_fields}
use Rattle.entry_views.specs.prov_entry.Spelling.{body_fields}
use Rattle.entry_views.specs.prov_entry.Spelling.{leaf_fields}
use Rattle.entry_views.specs.prov_entry.ForwardLists.{use_fields}
use Rattle.proof_codec.specs.declared.limits.TheConstants.{MAGIC}
use Rattle.proof_codec.specs.declared.proof.LeafProof.{LeafProof}
use Rattle.proof_codec.specs.declared.proof.Proof.{Proof}

-- ---- which parts are present

-- The last item, or `None` for an empty list.
abbrev pub last_of : {A : Type 0} → List A → Option A
last_of [] = None
last_of (x ∷ []) = Some x
last_of (x ∷ y ∷ items) = last_of (y ∷ items)

-- Whether the version of the last header answers a query at this block: the header's block is at
-- most `at`.
abbrev pub is_answer : ℕ → Option Header → Bool
is_answer at None = false
is_answer at (Some header) = nat_le header.block at

-- Whether a query asks for uses, given whether a version answers it.
abbrev pub asks_uses : Kind → Bool → Bool
asks_uses Hist answered = false
asks_uses Back answered = false
asks_uses Fwd answered = answered

-- The place of a leaf: the root that it is under, and which leaf it is.
pub record Place : Type 0 where
  pub root_at : ℕ
  pub block_digest : List ℕ
  pub leaf_count : ℕ
  pub leaf_index : ℕ

-- The place of the leaf of a leaf proof.
abbrev pub place_in : LeafProof → Place
place_in leaf_proof = record { root_at = leaf_proof.root_at; block_digest = leaf_proof.block_digest.0; leaf_count = leaf_proof.leaf_count; leaf_index = leaf_proof.leaf_index }

-- ---- which proofs can be spelled

-- A use: a key and a block number of 32 bits.
pub record IsUse (use_ : Dep) : Type 0 where
  pub key_is_key : IsKey use_.key
  pub block_fits : use_.block < 2 ^ 32

-- Uses whose number fits in 32 bits.
pub record AreUses (uses : List Dep) : Type 0 where
  pub counted : length uses < 2 ^ 32
  pub uses_are_uses : AllByRecursion IsUse uses

-- What holds of the item, if there is one.
abbrev pub IsIfAny : {A : Type 0} → (A → Type 0) → Option A → Type 0
IsIfAny Is None = Unit {0}
IsIfAny Is (Some x) = Is x

-- A digest of 32 bytes.
abbrev pub IsDigest : Digest → Type 0
IsDigest digest = length digest.0 ≡ 32

-- The root's block is at least `least`; the leaf is one of the tree's, without a key exactly if it is
-- the first, and comes with its audit path.
pub record IsLeafProof (least : ℕ) (leaf_proof : LeafProof) : Type 0 where
  pub root_at_fits : leaf_proof.root_at < 2 ^ 32
  pub root_at_within : least ≤ leaf_proof.root_at
  pub block_digest_fits : IsDigest leaf_proof.block_digest
  pub leaf_count_fits : leaf_proof.leaf_count < 2 ^ 32
  pub leaf_within : leaf_proof.leaf_index < leaf_proof.leaf_count
  pub leaf_is_leaf : IsLeaf leaf_proof.leaf
  pub first_without_key : is_none leaf_proof.leaf.key ≡ (leaf_proof.leaf_index == 0)
  pub audit_counted : length leaf_proof.audit ≡ audit_length leaf_proof.leaf_index leaf_proof.leaf_count
  pub audit_fits : AllByRecursion IsDigest leaf_proof.audit

-- The query's block is at most the root's; the number of headers fits in one byte; the body is
-- present exactly if the version of the last header answers; the uses are present exactly if the
-- query asks for them and there is a body.
pub record IsProof (proof : Proof) : Type 0 where
  pub key_is_key : IsKey proof.query.key
  pub leaf_proof_is : IsLeafProof proof.query.at proof.leaf_proof
  pub few_headers : length proof.headers < 2 ^ 8
  pub headers_are_headers : AllByRecursion IsHeader proof.headers
  pub body_if_answered : is_some proof.body ≡ is_answer proof.query.at (last_of proof.headers)
  pub body_is_body : IsIfAny IsBody proof.body
  pub uses_if_asked : is_some proof.uses ≡ asks_uses proof.query.kind (is_some proof.body)
  pub uses_are_uses : IsIfAny AreUses proof.uses

-- ---- how proofs are spelled, field by field

-- The byte of a kind.
abbrev pub kind_byte : Kind → ℕ
kind_byte Hist = 0
kind_byte Back = 1
kind_byte Fwd = 2

-- The kind, the key, and the block.
abbrev pub query_fields : Query → List (List ℕ)
query_fields query =
    (kind_byte query.kind ∷ []) ∷ string_fields query.key ++ to_be_bytes w32 query.at ∷ []

-- The number of digests in one byte, then the digests.
abbrev pub audit_fields : List Digest → List (List ℕ)
audit_fields audit = (length audit ∷ []) ∷ flat_map (λ (digest : Digest). digest.0 ∷ []) audit

-- The number of headers in one byte, then the headers.
abbrev pub headers_fields : List Header → List (List ℕ)
headers_fields headers = (length headers ∷ []) ∷ flat_map header_fields headers

-- The number of uses in four bytes, then the uses.
abbrev pub uses_fields : List Dep → List (List ℕ)
uses_fields uses = to_be_bytes w32 (length uses) ∷ flat_map use_fields uses

-- The fields of the item, or none for `None`.
abbrev pub fields_if_any : {A : Type 0} → (A → List (List ℕ)) → Option A → List (List ℕ)
fields_if_any fields None = []
fields_if_any fields (Some x) = fields x

-- The root's block and that block's digest, the number of leaves, and the index of the leaf.
abbrev pub place_fields : Place → List (List ℕ)
place_fields place = to_be_bytes w32 place.root_at ∷ place.block_digest ∷ to_be_bytes w32 place.leaf_count ∷ to_be_bytes w32 place.leaf_index ∷ []

-- The leaf's place, the leaf, and its audit path.
abbrev pub leaf_proof_fields : LeafProof → List (List ℕ)
leaf_proof_fields leaf_proof = place_fields (place_in leaf_proof) ++ leaf_fields leaf_proof.leaf ++ audit_fields leaf_proof.audit

-- The magic bytes, and the query.
abbrev pub front_fields : Query → List (List ℕ)
front_fields query = MAGIC ∷ query_fields query

-- The front, the leaf proof, the headers, the body, and the uses.
abbrev pub proof_fields : Proof → List (List ℕ)
proof_fields proof =
    front_fields proof.query ++ leaf_proof_fields proof.leaf_proof ++ headers_fields proof.headers
    ++ fields_if_any body_fields proof.body ++ fields_if_any uses_fields proof.uses
