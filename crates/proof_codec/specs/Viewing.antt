-- Bytes are a proof if all of them are the fields of one; else they are malformed at some offset.
use Rattle.std.specs.Prelude.{◌≡◌, ℕ, ◌-◌, List, length, Option, Some, Result, Ok, Err}
use Rattle.std.specs.List.{concat}
use Rattle.entry_views.specs.byte_fields.Reading.{all_read}
use Rattle.proof_codec.specs.declared.proof.Proof.{Proof}
use Rattle.proof_codec.specs.Spelling.{IsProof, proof_fields}
use Rattle.proof_codec.specs.Reading.{proof_at}
use Rattle.proof_codec.specs.declared.proof_view.ViewError.{ViewError}
use Rattle.proof_codec.specs.declared.proof_view.ViewError.TheVariants.{Malformed}

-- The bytes are the fields of a lawful proof, and nothing else.
pub record Spells (bytes : List ℕ) (proof : Proof) : Type 0 where
  pub lawful : IsProof proof
  pub spelled : bytes ≡ concat (proof_fields proof)

-- Turns a fault, which counts the bytes left there, into an offset from the start.
abbrev pub with_offset : ℕ → Result Proof ℕ → Result Proof ℕ
with_offset total (Ok proof) = Ok proof
with_offset total (Err left) = Err (total - left)

-- The proof that the bytes spell, or the offset at which they are invalid.
unfoldable pub proof_in : List ℕ → Result Proof ℕ
proof_in bytes = with_offset (length bytes) (all_read (proof_at bytes))

-- The offset of an error.
abbrev pub told_at : ViewError → Option ℕ
told_at (Malformed at) = Some at
