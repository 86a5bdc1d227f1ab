-- Which fault an error reports.
use Rattle.std.specs.Prelude.{Option, Some, None}
use Rattle.proof_verifier.specs.proof_checks.declared.trace_reject.TraceReject.{TraceReject}
use Rattle.trace_verifier.specs.declared.error.TraceError.{TraceError}
use Rattle.trace_verifier.specs.declared.error.TraceError.TheVariants as errors

-- The fault, or `None` if memory ran out.
abbrev pub fault_told : TraceError → Option TraceReject
fault_told (errors.Rejected fault) = Some fault
fault_told error = None
