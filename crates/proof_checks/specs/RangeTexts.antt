-- The texts that a range proof shows, and which range proofs can be spelled.
use Rattle.std.specs.Prelude.{◌≡◌, ℕ, ◌<◌, ◌≤◌, ◌^◌, List, ◌++◌, length, map}
use Rattle.std.specs.List.{AllByRecursion}
use Rattle.lc_base.specs.KeyBytes.{IsKey}
use Rattle.root_laws.specs.prov_entry.Spelling.{IsHeader, IsBody, header_text, body_text}
use Rattle.proof_codec.specs.Spelling.{IsLeafProof}
use Rattle.proof_checks.specs.ProofTexts.{leaf_proof_texts}
use Rattle.proof_checks.specs.declared.range_proof.RangeProof.{RangeProof}
use Rattle.proof_checks.specs.RangeChecks.{headers_within}

-- The texts of a range proof: those of its leaf proof, its headers, and its bodies.
unfoldable pub range_texts : RangeProof → List (List ℕ)
range_texts range =
    leaf_proof_texts range.leaf_proof ++ map header_text range.headers ++ map body_text range.bodies

-- A range proof that can be spelled. The first block is at most the last one, and that at most the
-- root's; the number of headers fits in 32 bits; and there are as many bodies as headers of blocks
-- from the first to the last.
pub record IsRangeProof (range : RangeProof) : Type 0 where
  pub key_is_key : IsKey range.key
  pub in_order : range.from ≤ range.to
  pub leaf_proof_is : IsLeafProof range.to range.leaf_proof
  pub few_headers : length range.headers < 2 ^ 32
  pub headers_are_headers : AllByRecursion IsHeader range.headers
  pub bodies_counted : length range.bodies ≡ length (headers_within range)
  pub bodies_are_bodies : AllByRecursion IsBody range.bodies
