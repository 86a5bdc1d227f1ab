-- Which fault an error reports.
use Rattle.std.specs.Prelude.{Option, Some, None}
use Rattle.proof_verifier.specs.proof_checks.declared.range_reject.RangeReject.{RangeReject}
use Rattle.range_verifier.specs.declared.error.RangeError.{RangeError}
use Rattle.range_verifier.specs.declared.error.RangeError.TheVariants.{Rejected, Memory}

-- The fault, or `None` if memory ran out.
abbrev pub fault_told : RangeError → Option RangeReject
fault_told (Rejected fault) = Some fault
fault_told Memory = None
