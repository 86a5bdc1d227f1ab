-- What is returned for bytes follows from the verdict on the range proof that they spell.
use Rattle.std.proofs.Common.{◌≡◌, ◌∙◌, ℕ, ◌<◌, ◌^◌, List, Result, Ok, Err}
use Rattle.std.proofs.Common.{IfOk, IfSome, IsSomeAnd, sym, ap, subst}
use Rattle.lc_base.specs.Answers.{Answers}
use Rattle.lc_base.specs.declared.digest.Digest.{Digest}
use Rattle.lc_base.specs.declared.row.Row.{Row}
use Rattle.lc_base.specs.declared.row.Version.{Version}
use Rattle.proof_codec.specs.declared.proof_view.ViewError.{ViewError}
use Rattle.proof_codec.specs.declared.proof_view.ViewError.TheVariants.{Malformed}
use Rattle.proof_codec.specs.Viewing.{told_at}
use Rattle.root_laws.specs.Root.{root_of}
use Rattle.root_laws.specs.TypedLedger.{IsTypedHistory}
use Rattle.proof_verifier.specs.proof_checks.declared.range_proof.RangeProof.{RangeProof}
use Rattle.proof_verifier.specs.proof_checks.declared.range_reject.RangeReject.{RangeReject}
use Rattle.proof_verifier.specs.proof_checks.RangeChecks.{range_verdict}
use Rattle.proof_verifier.specs.proof_checks.RangeTexts.{IsRangeProof, range_texts}
use Rattle.proof_verifier.specs.proof_checks.RangeSoundness.{RangesOrClashes}
use Rattle.proof_verifier.proofs.proof_checks.RangeSound.{range_is_sound}
use Rattle.range_verifier.specs.Reading.{range_in}
use Rattle.range_verifier.specs.declared.error.RangeError.{RangeError}
use Rattle.range_verifier.specs.declared.error.RangeError.TheVariants.{Rejected}
use Rattle.range_verifier.specs.Errors.{fault_told}
use Rattle.range_verifier.specs.Verdicts.{fault_of_view, malformed_at, verdict_of_read}
use Rattle.range_verifier.specs.Verdicts.{range_verdict_on}

abbrev read : RangeProof → Result RangeProof ViewError
read range = Ok range

abbrev refused : RangeReject → Result (List Version) RangeReject
refused fault = Err fault

-- The range proof that was read is the one that the bytes spell.
read_is : (view given : RangeProof) → Ok view ≡ read given → view ≡ given
read_is view given e = cc

module _ (root key : List ℕ) (from to : ℕ) (bytes : List ℕ) where
  -- What holds of the verdict on the range proof that was read holds of the verdict on the bytes.
  pub read_on : (range : RangeProof) (P : Result (List Version) RangeReject → Type 0)
      → range_in bytes ≡ Ok range → P (range_verdict root key from to range)
      → P (range_verdict_on root key from to bytes)
  unfolding range_verdict_on
  read_on range P is told =
      subst (λ (r : Result RangeProof ℕ). P (verdict_of_read root key from to r)) (sym is) told

  -- It holds of the verdict on the range proof that the bytes spell.
  pub read_of : (view given : RangeProof) (P : Result (List Version) RangeReject → Type 0)
      → Ok view ≡ read given → P (range_verdict root key from to view)
      → P (range_verdict root key from to given)
  read_of view given P same told =
      subst (λ (range : RangeProof). P (range_verdict root key from to range))
      (read_is view given same) told

  pub read_sound : (given : RangeProof) (result : Result (List Version) RangeError)
      → IsRangeProof given
      → Answers (λ versions. versions) fault_told result (range_verdict root key from to given)
      → (rows : List Row) (digests : List Digest) (block : ℕ) → IsTypedHistory rows
      → block < 2 ^ 32 → root_of rows digests block ≡ root
      → IfOk result (λ versions.
      RangesOrClashes rows digests block key from to (range_texts given) versions)
  read_sound given (Ok versions) is told rows digests block history fits root_is =
      range_is_sound root key from to given versions is told rows digests block history fits root_is
  read_sound given (Err error) is told rows digests block history fits root_is = tt

  unread_is : (error : ViewError) (fault : RangeReject) → fault ≡ fault_of_view error
      → IfSome (told_at error) (λ offset. range_in bytes ≡ Err offset)
      → range_verdict_on root key from to bytes ≡ Err fault
  unfolding range_verdict_on
  unread_is (Malformed offset) fault same is =
      ap (verdict_of_read root key from to) is ∙ ap refused (sym same)

  -- What holds of the fault for bytes that aren't a range proof holds of the verdict on the bytes.
  pub unread_on : (error : ViewError) (fault : RangeReject)
      (P : Result (List Version) RangeReject → Type 0) → fault ≡ fault_of_view error
      → IfSome (told_at error) (λ offset. range_in bytes ≡ Err offset) → P (refused fault)
      → P (range_verdict_on root key from to bytes)
  unread_on error fault P same is told = subst P (sym (unread_is error fault same is)) told

pub unread_malformed : (P : ℕ → Type 0) (error : ViewError) (fault : RangeReject)
    → fault ≡ fault_of_view error → IfSome (told_at error) P
    → IsSomeAnd (malformed_at (Rejected fault)) P
unread_malformed P (Malformed offset) fault same is = rw same is
