-- What `check` returns for the bytes of a proof, if the reader has a light file.
use Rattle.std.specs.Prelude.{◌≡◌, ◌==◌, ℕ, if◌then◌else◌, List, length, slice_get}
use Rattle.std.specs.Prelude.{Option, Some, None, Result, Ok, Err}
use Rattle.std.specs.Cmp.Lexicographic.{pointwise}
use Rattle.lc_base.specs.declared.answer.Answer.{Answer}
use Rattle.lc_base.specs.declared.answer.Query.{Query}
use Rattle.proof_codec.specs.declared.proof.Proof.{Proof}
use Rattle.byte_fields.specs.Prefixes.{IsLongestPrefix}
use Rattle.proof_codec.specs.Spelling.{IsProof, proof_fields}
use Rattle.proof_codec.specs.Viewing.{Spells, proof_in}
use Rattle.proof_verifier.specs.proof_checks.declared.reject.Reject.{Reject}
use Rattle.proof_verifier.specs.proof_checks.Checks.{judgement}
use Rattle.proof_verifier.specs.Answering.{answer_seen}
use Rattle.light_client.specs.declared.block_root.BlockRoot.{BlockRoot}
use Rattle.light_client.specs.declared.checking.Checked.{Checked}
use Rattle.light_client.specs.declared.reject.LightReject.{LightReject}
use Rattle.light_client.specs.declared.reject.LightReject.TheVariants.{Malformed, Unknown}
use Rattle.light_client.specs.declared.reject.LightReject.TheVariants.{DigestDiffers, Rejected}

-- The query of a proof, the block of its root, and the answer under that root.
pub record LightAnswer : Type 0 where
  pub query : Query
  pub root_at : ℕ
  pub answer : Answer

-- An answer with the query and the block of the proof that gives it.
abbrev pub light_answer : Proof → Answer → LightAnswer
light_answer proof answer =
    record { query = proof.query; root_at = proof.leaf_proof.root_at; answer = answer }

-- What a root answers by a proof, or the check that fails under it.
abbrev pub light_outcome : Proof → Result Answer Reject → Result LightAnswer LightReject
light_outcome proof (Ok answer) = Ok (light_answer proof answer)
light_outcome proof (Err fault) = Err (Rejected fault)

-- The same by what a light file has of the proof's block: the digest must be the proof's.
abbrev pub judgement_by : Proof → BlockRoot → Result LightAnswer LightReject
judgement_by proof block_root =
    if pointwise ◌==◌ block_root.digest.0 proof.leaf_proof.block_digest.0
    then light_outcome proof (judgement block_root.root.0 proof)
    else Err (DigestDiffers block_root.digest)

-- The same by a light file of so many blocks, if it has the proof's block.
abbrev pub judgement_if_known : ℕ → Proof → Option BlockRoot → Result LightAnswer LightReject
judgement_if_known count proof None = Err (Unknown count)
judgement_if_known count proof (Some block_root) = judgement_by proof block_root

-- What a proof answers to its own query by a light file, or the first check that fails.
abbrev pub light_judgement : List BlockRoot → Proof → Result LightAnswer LightReject
light_judgement file proof =
    judgement_if_known (length file) proof (slice_get file proof.leaf_proof.root_at)

-- What a proof that was read answers.
abbrev pub answer_of_read : List BlockRoot → Result Proof ℕ → Result LightAnswer LightReject
answer_of_read file (Err at) = Err (Malformed at)
answer_of_read file (Ok proof) = light_judgement file proof

-- What bytes answer, or the first check that fails.
unfoldable pub light_verdict : List BlockRoot → List ℕ → Result LightAnswer LightReject
light_verdict file bytes = answer_of_read file (proof_in bytes)

-- The verdict on bytes: if they aren't a proof, the offset of the first invalid field; else what
-- the proof answers, or the first check that fails. There is one such verdict.
pub data IsLightVerdict (file : List BlockRoot) (bytes : List ℕ) :
    Result LightAnswer LightReject → Type 0 where
  NoProof : ((given : Proof) → Spells bytes given → ⊥) → (at : ℕ)
      → IsLongestPrefix proof_fields IsProof bytes at
      → IsLightVerdict file bytes (Err (Malformed at))
  Judged : (given : Proof) → Spells bytes given
      → IsLightVerdict file bytes (light_judgement file given)

-- ---- results

-- The answer that a result stands for.
abbrev pub checked_seen : Checked → LightAnswer
checked_seen checked = record {
  query = checked.query;
  root_at = checked.root_at;
  answer = answer_seen checked.found;
}

-- A fault is reported as it is.
abbrev pub reject_told : LightReject → Option LightReject
reject_told reject = Some reject

-- The offset in a fault; `None` if the bytes are a proof.
abbrev pub malformed_at : LightReject → Option ℕ
malformed_at (Malformed at) = Some at
malformed_at reject = None

-- The file has this of the block of a proof's root, and the same digest of it as the proof.
pub record HasBlockOf (file : List BlockRoot) (proof : Proof)
    (block_root : BlockRoot) : Type 0 where
  pub known : slice_get file proof.leaf_proof.root_at ≡ Some block_root
  pub same_digest : block_root.digest ≡ proof.leaf_proof.block_digest
