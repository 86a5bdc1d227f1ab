-- What `verify_range` returns for bytes, if the reader has a root, a key, and two blocks.
use Rattle.std.specs.Prelude.{ℕ, List, Option, Some, None, Result, Ok, Err}
use Rattle.lc_base.specs.declared.row.Version.{Version}
use Rattle.proof_codec.specs.declared.proof_view.ViewError.{ViewError}
use Rattle.proof_codec.specs.declared.proof_view.ViewError.TheVariants as views
use Rattle.proof_verifier.specs.proof_checks.declared.range_proof.RangeProof.{RangeProof}
use Rattle.proof_verifier.specs.proof_checks.declared.range_reject.RangeReject.{RangeReject}
use Rattle.proof_verifier.specs.proof_checks.declared.range_reject.RangeReject.TheVariants.{
  Malformed,
}
use Rattle.proof_verifier.specs.proof_checks.RangeChecks.{range_verdict}
use Rattle.range_verifier.specs.Reading.{range_in}
use Rattle.range_verifier.specs.declared.error.RangeError.{RangeError}
use Rattle.range_verifier.specs.declared.error.RangeError.TheVariants.{Rejected}

-- The fault for bytes that aren't a range proof.
abbrev pub fault_of_view : ViewError → RangeReject
fault_of_view (views.Malformed at) = Malformed at

-- The offset in an error; `None` if the bytes are a range proof.
abbrev pub malformed_at : RangeError → Option ℕ
malformed_at (Rejected (Malformed at)) = Some at
malformed_at error = None

-- What a range proof that was read shows, or the first check that fails.
abbrev pub verdict_of_read : List ℕ → List ℕ → ℕ → ℕ → Result RangeProof ℕ
    → Result (List Version) RangeReject
verdict_of_read root key from to (Err offset) = Err (Malformed offset)
verdict_of_read root key from to (Ok range) = range_verdict root key from to range

-- What bytes show, or the first check that fails.
unfoldable pub range_verdict_on : List ℕ → List ℕ → ℕ → ℕ → List ℕ
    → Result (List Version) RangeReject
range_verdict_on root key from to bytes = verdict_of_read root key from to (range_in bytes)
