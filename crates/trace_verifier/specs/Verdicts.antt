-- What `verify_trace` returns for bytes, if the reader has a root, a key, and a block.
use Rattle.std.specs.Prelude.{ℕ, List, Option, Some, None, Result, Ok, Err}
use Rattle.proof_codec.specs.declared.proof_view.ViewError.{ViewError}
use Rattle.proof_codec.specs.declared.proof_view.ViewError.TheVariants as views
use Rattle.root_laws.specs.declared.trace.Trace.{Trace}
use Rattle.proof_verifier.specs.proof_checks.declared.trace_proof.TraceProof.{TraceProof}
use Rattle.proof_verifier.specs.proof_checks.declared.trace_reject.TraceReject.{TraceReject}
use Rattle.proof_verifier.specs.proof_checks.declared.trace_reject.TraceReject.TheVariants.{
  Malformed,
}
use Rattle.proof_verifier.specs.proof_checks.TraceChecks.{trace_verdict}
use Rattle.trace_verifier.specs.Reading.{trace_in}
use Rattle.trace_verifier.specs.declared.error.TraceError.{TraceError}
use Rattle.trace_verifier.specs.declared.error.TraceError.TheVariants.{Rejected}

-- The fault for bytes that aren't a proof of ancestors.
abbrev pub fault_of_view : ViewError → TraceReject
fault_of_view (views.Malformed at) = Malformed at

-- The offset in an error; `None` if the bytes are a proof of ancestors.
abbrev pub malformed_at : TraceError → Option ℕ
malformed_at (Rejected (Malformed at)) = Some at
malformed_at error = None

-- What a proof that was read shows, or the first check that fails.
abbrev pub verdict_of_read : List ℕ → List ℕ → ℕ → Result TraceProof ℕ
    → Result (Option Trace) TraceReject
verdict_of_read root key at (Err offset) = Err (Malformed offset)
verdict_of_read root key at (Ok trace) = trace_verdict root key at trace

-- What bytes show, or the first check that fails.
unfoldable pub trace_verdict_on : List ℕ → List ℕ → ℕ → List ℕ → Result (Option Trace) TraceReject
trace_verdict_on root key at bytes = verdict_of_read root key at (trace_in bytes)
