-- How a range proof is spelled: field by field, in a fixed order.
use Rattle.std.specs.Prelude.{◌≡◌, ℕ, List, [], ◌∷◌, ◌++◌, length}
use Rattle.std.specs.List.{concat, flat_map}
use Rattle.std.specs.Int.{w32, to_be_bytes}
use Rattle.byte_fields.specs.Spelling.{string_fields}
use Rattle.root_laws.specs.prov_entry.declared.entry.Header.{Header}
use Rattle.root_laws.specs.prov_entry.Spelling.{header_fields, body_fields}
use Rattle.proof_codec.specs.Spelling.{leaf_proof_fields}
use Rattle.proof_checks.specs.declared.range_limits.TheConstants.{RANGE_MAGIC}
use Rattle.proof_checks.specs.declared.range_proof.RangeProof.{RangeProof}
use Rattle.proof_checks.specs.RangeTexts.{IsRangeProof}

-- The magic bytes, the key, the first block, and the last one.
abbrev pub front_fields : List ℕ → ℕ → ℕ → List (List ℕ)
front_fields key from to =
    RANGE_MAGIC ∷ string_fields key ++ to_be_bytes w32 from ∷ to_be_bytes w32 to ∷ []

-- The headers, after their number in four bytes.
abbrev pub headers_fields : List Header → List (List ℕ)
headers_fields headers = to_be_bytes w32 (length headers) ∷ flat_map header_fields headers

-- The front, the leaf proof, the headers, and the bodies. The number of bodies isn't spelled, since
-- it follows from the headers.
abbrev pub range_fields : RangeProof → List (List ℕ)
range_fields range =
    front_fields range.key range.from range.to ++ leaf_proof_fields range.leaf_proof
    ++ headers_fields range.headers ++ flat_map body_fields range.bodies

-- The bytes are the fields of a lawful range proof, and nothing else.
pub record SpellsRange (bytes : List ℕ) (range : RangeProof) : Type 0 where
  pub lawful : IsRangeProof range
  pub spelled : bytes ≡ concat (range_fields range)
