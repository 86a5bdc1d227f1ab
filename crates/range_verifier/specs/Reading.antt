-- A range proof is read from left to right, each field under its rule.
use Rattle.std.specs.Prelude.{ℕ, ◌-◌, ◌==◌, nat_le, List, length, filter, Result, Ok, Err}
use Rattle.std.specs.Cmp.Lexicographic.{pointwise}
use Rattle.std.specs.Int.{w32}
use Rattle.byte_fields.specs.Prefixes.{IsLongestPrefix}
use Rattle.byte_fields.specs.Reading.{Field, bind_at, then_at, made_at, ruled_at, items_at}
use Rattle.byte_fields.specs.Reading.{all_read, number_at, bytes_at, key_at}
use Rattle.prov_entry.specs.declared.entry.Header.{Header}
use Rattle.prov_entry.specs.declared.entry.Body.{Body}
use Rattle.entry_views.specs.Reading.{body_at}
use Rattle.proof_codec.specs.declared.proof.LeafProof.{LeafProof}
use Rattle.proof_codec.specs.Reading.{then_on, leaf_proof_at, counted_headers_at}
use Rattle.proof_verifier.specs.proof_checks.declared.range_limits.TheConstants.{RANGE_MAGIC}
use Rattle.proof_verifier.specs.proof_checks.declared.range_proof.RangeProof.{RangeProof}
use Rattle.proof_verifier.specs.proof_checks.RangeChecks.{is_within}
use Rattle.proof_verifier.specs.proof_checks.RangeTexts.{IsRangeProof}
use Rattle.proof_verifier.specs.proof_checks.RangeSpelling.{range_fields}
use Rattle.range_verifier.specs.declared.front.RangeQuery.{RangeQuery}

-- ---- the front: the magic bytes and the query

-- The four magic bytes.
unfoldable pub magic_at : List ℕ → Field (List ℕ)
magic_at = ruled_at (λ bytes. pointwise ◌==◌ bytes RANGE_MAGIC) (bytes_at 4)

-- The first block, and the last one, which is at least the first.
unfoldable pub blocks_at : List ℕ → Field (ℕ × ℕ)
blocks_at = then_on (number_at w32) (λ from. ruled_at (λ n. nat_le from n) (number_at w32))

-- The query with these parts.
abbrev pub query_of : List ℕ × (ℕ × ℕ) → RangeQuery
query_of parts = record { key = parts.0; from = parts.1.0; to = parts.1.1 }

-- The key and the blocks.
unfoldable pub query_at : List ℕ → Field RangeQuery
query_at = made_at query_of (then_at key_at blocks_at)

-- Everything before the leaf proof.
unfoldable pub front_at : List ℕ → Field RangeQuery
front_at = bind_at magic_at (λ magic. query_at)

-- ---- the headers and the bodies

-- The number of headers in four bytes, then the headers.
unfoldable pub headers_at : List ℕ → Field (List Header)
headers_at = counted_headers_at (number_at w32)

-- How many of the headers are of blocks from `from` to `to`.
abbrev pub count_within : ℕ → ℕ → List Header → ℕ
count_within from to headers = length (filter (is_within from to) headers)

-- ---- the range proof

-- What comes before the bodies: the query, the leaf proof, and the headers.
abbrev pub Way : Type 0
Way = (RangeQuery × LeafProof) × List Header

-- Everything before the bodies.
unfoldable pub way_at : List ℕ → Field Way
way_at = then_at (then_on front_at (λ query. leaf_proof_at query.to)) headers_at

-- A body for each header that is between the blocks.
abbrev pub bodies_after : Way → List ℕ → Field (List Body)
bodies_after way = items_at body_at (count_within way.0.0.from way.0.0.to way.1)

-- The range proof with these parts.
abbrev pub range_of : Way × List Body → RangeProof
range_of parts = record {
  key = parts.0.0.0.key;
  from = parts.0.0.0.from;
  to = parts.0.0.0.to;
  leaf_proof = parts.0.0.1;
  headers = parts.0.1;
  bodies = parts.1;
}

-- A whole range proof.
unfoldable pub range_at : List ℕ → Field RangeProof
range_at = made_at range_of (then_on way_at bodies_after)

-- ---- all of the bytes

-- Turns a fault, which counts the bytes left there, into an offset from the start.
abbrev pub with_offset : ℕ → Result RangeProof ℕ → Result RangeProof ℕ
with_offset total (Ok range) = Ok range
with_offset total (Err left) = Err (total - left)

-- The range proof that the bytes spell, or the offset of the first field that is cut short or
-- breaks its rule, or of what follows the last field.
unfoldable pub range_in : List ℕ → Result RangeProof ℕ
range_in bytes = with_offset (length bytes) (all_read (range_at bytes))

-- At this offset the longest prefix of the bytes ends that is whole fields of some range proof: the
-- first field that is cut short or breaks its rule begins there, or what follows the last field.
abbrev pub IsInvalidAt : List ℕ → ℕ → Type 0
IsInvalidAt = IsLongestPrefix range_fields IsRangeProof
