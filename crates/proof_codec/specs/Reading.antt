-- A proof is read from left to right, each field under the rule that IsProof has for it.
use Rattle.std.specs.Prelude.{ℕ, zero, suc, Bool, true, false, ◌==◌, nat_le, nat_lt, is_some, List}
use Rattle.std.specs.Prelude.{Option, Some, None}
use Rattle.std.specs.Cmp.Lexicographic.{pointwise}
use Rattle.std.specs.Int.{w32, w64}
use Rattle.lc_base.specs.declared.digest.Digest.{Digest}
use Rattle.lc_base.specs.declared.row.Dep.{Dep}
use Rattle.lc_base.specs.declared.answer.Kind.{Kind}
use Rattle.lc_base.specs.declared.answer.Kind.TheVariants.{Hist, Back, Fwd}
use Rattle.lc_base.specs.declared.answer.Query.{Query}
use Rattle.entry_views.specs.byte_fields.Reading.{Field, bind_at, ret_at, then_at, made_at}
use Rattle.entry_views.specs.byte_fields.Reading.{ruled_at, items_at}
use Rattle.entry_views.specs.byte_fields.Reading.{number_at, byte_at, bytes_at, string_at, key_at}
use Rattle.merkle_tree.specs.Tree.{audit_length}
use Rattle.entry_views.specs.prov_entry.declared.entry.Leaf.{Leaf}
use Rattle.entry_views.specs.prov_entry.declared.entry.Header.{Header}
use Rattle.entry_views.specs.prov_entry.declared.entry.Body.{Body}
use Rattle.entry_views.specs.Reading.{digest_at, use_at, next_at, leaf_of, header_at, body_at}
use Rattle.proof_codec.specs.declared.limits.TheConstants.{MAGIC}
use Rattle.proof_codec.specs.declared.proof.LeafProof.{LeafProof}
use Rattle.proof_codec.specs.declared.proof.Proof.{Proof}
use Rattle.proof_codec.specs.Spelling.{Place, last_of, is_answer, asks_uses}

-- ---- how fields are put together

-- One field, then another that depends on it.
abbrev pub then_on : {A B : Type 0} → (List ℕ → Field A) → (A → List ℕ → Field B) → List ℕ
    → Field (A × B)
then_on first second = bind_at first (λ a. bind_at (second a) (λ b. ret_at (a, b)))

-- A field that is read only if the flag is set.
abbrev pub if_any_at : {A : Type 0} → (List ℕ → Field A) → Bool → List ℕ → Field (Option A)
if_any_at read false = ret_at None
if_any_at read true = made_at Some read

-- ---- the front: the magic bytes and the query

-- The kind with this byte.
abbrev pub kind_of : ℕ → Kind
kind_of zero = Hist
kind_of (suc zero) = Back
kind_of (suc (suc n)) = Fwd

-- The query with these parts.
abbrev pub query_of : Kind × (List ℕ × ℕ) → Query
query_of parts = record { kind = parts.0; key = parts.1.0; at = parts.1.1 }

-- The four magic bytes.
unfoldable pub magic_at : List ℕ → Field (List ℕ)
magic_at = ruled_at (λ bytes. pointwise ◌==◌ bytes MAGIC) (bytes_at 4)

-- The kind, the key, and the block of a query.
unfoldable pub query_at : List ℕ → Field Query
query_at = made_at query_of (then_at (made_at kind_of (ruled_at (λ n. nat_le n 2) byte_at)) (then_at key_at (number_at w32)))

-- Everything before the leaf proof.
unfoldable pub front_at : List ℕ → Field Query
front_at = bind_at magic_at (λ magic. query_at)

-- ---- the place of the leaf

-- The block of the root, which is at least `least`.
abbrev pub root_at_at : ℕ → List ℕ → Field ℕ
root_at_at least = ruled_at (λ n. nat_le least n) (number_at w32)

-- The number of leaves, and the index of the leaf.
abbrev pub leaf_index_at : List ℕ → Field (ℕ × ℕ)
leaf_index_at = then_on (ruled_at (λ n. nat_le 1 n) (number_at w32)) (λ count. ruled_at (λ n. nat_lt n count) (number_at w32))

-- The place with these parts.
abbrev pub place_of : ℕ × (List ℕ × (ℕ × ℕ)) → Place
place_of parts = record { root_at = parts.0; block_digest = parts.1.0; leaf_count = parts.1.1.0; leaf_index = parts.1.1.1 }

-- The place of a leaf, under the root at a block that is at least `least`.
unfoldable pub place_at : ℕ → List ℕ → Field Place
place_at least = made_at place_of (then_at (root_at_at least) (then_at (bytes_at 32) leaf_index_at))

-- ---- the leaf and its audit path

-- Accepts every byte: `None` is the answer for a string without bad bytes.
abbrev pub none_bad : List ℕ → Option ℕ
none_bad bytes = None

-- The key of the leaf at an index: the empty string exactly if the index is 0.
abbrev pub leaf_key_at : ℕ → List ℕ → Field (Option (List ℕ))
leaf_key_at zero = made_at (λ none. None) (string_at 0 0 none_bad)
leaf_key_at (suc index) = made_at Some key_at

-- The leaf at this index.
unfoldable pub leaf_at_index : ℕ → List ℕ → Field Leaf
leaf_at_index index = made_at leaf_of (then_at (leaf_key_at index) (then_at next_at (then_at (number_at w32) (then_at (bytes_at 32) (then_at (number_at w64) (bytes_at 32))))))

-- A byte that must be `count`, then `count` digests.
unfoldable pub audit_at : ℕ → List ℕ → Field (List Digest)
audit_at count = bind_at (ruled_at (λ n. n == count) byte_at) (items_at digest_at)

-- The leaf proof with these parts.
abbrev pub leaf_proof_of : (Place × Leaf) × List Digest → LeafProof
leaf_proof_of parts = record {
  root_at = parts.0.0.root_at;
  block_digest = record { 0 = parts.0.0.block_digest };
  leaf_count = parts.0.0.leaf_count;
  leaf_index = parts.0.0.leaf_index;
  leaf = parts.0.1;
  audit = parts.1;
}

-- The place of a leaf, the leaf, and its audit path.
unfoldable pub leaf_proof_at : ℕ → List ℕ → Field LeafProof
leaf_proof_at least = made_at leaf_proof_of (then_on (then_on (place_at least) (λ place. leaf_at_index place.leaf_index)) (λ parts. audit_at (audit_length parts.0.leaf_index parts.0.leaf_count)))

-- ---- the headers, the body and the uses

-- The number of headers, in as many bytes as the format has for it, then the headers.
abbrev pub counted_headers_at : (List ℕ → Field ℕ) → List ℕ → Field (List Header)
counted_headers_at count_at = bind_at count_at (items_at header_at)

-- The number of headers in one byte, then the headers.
unfoldable pub headers_at : List ℕ → Field (List Header)
headers_at = counted_headers_at byte_at

-- The number of uses in four bytes, then the uses.
unfoldable pub uses_at : List ℕ → Field (List Dep)
uses_at = bind_at (number_at w32) (items_at use_at)

-- ---- a proof

-- What comes before the body: the query, the leaf proof, and the headers.
abbrev pub Way : Type 0
Way = (Query × LeafProof) × List Header

-- The query of a way.
abbrev pub way_query : Way → Query
way_query way = way.0.0

-- Everything before the body.
unfoldable pub way_at : List ℕ → Field Way
way_at = then_at (then_on front_at (λ query. leaf_proof_at query.at)) headers_at

-- The body, present if the version of the last header answers the query.
abbrev pub body_after : Way → List ℕ → Field (Option Body)
body_after way = if_any_at body_at (is_answer (way_query way).at (last_of way.1))

-- The uses, present if the query asks for them and there is a body.
abbrev pub uses_after : Way × Option Body → List ℕ → Field (Option (List Dep))
uses_after parts = if_any_at uses_at (asks_uses (way_query parts.0).kind (is_some parts.1))

-- The proof with these parts.
abbrev pub proof_of : (Way × Option Body) × Option (List Dep) → Proof
proof_of parts = record {
  query = way_query parts.0.0;
  leaf_proof = parts.0.0.0.1;
  headers = parts.0.0.1;
  body = parts.0.1;
  uses = parts.1;
}

-- A whole proof.
unfoldable pub proof_at : List ℕ → Field Proof
proof_at = made_at proof_of (then_on (then_on way_at body_after) uses_after)
