-- When a question about a ledger is refused, and why it has no answer.
use Rattle.std.specs.Prelude.{ℕ, ◌<◌, ◌≤◌, List, length, Result, Ok, Err}
use Rattle.lc_base.specs.declared.digest.Digest.{Digest}
use Rattle.lc_base.specs.declared.host_error.HostError.{HostError}
use Rattle.lc_base.specs.declared.host_error.HostError.TheVariants as failures
use Rattle.merkle_dag.specs.Ledger.{IsHead}
use Rattle.merkle_dag.specs.declared.query_error.QueryError.{QueryError}
use Rattle.merkle_dag.specs.declared.query_error.QueryError.TheVariants as errors

-- Why a question has no answer if a call fails that it needs.
abbrev pub query_error : HostError → QueryError
query_error failures.Fault = errors.Fault
query_error failures.Memory = errors.Memory

-- A question is refused, with the number of the last block, exactly if it goes beyond the ledger:
-- what `Beyond` says, where `Within` says that it doesn't.
abbrev pub TellsBeyond : {T : Type 0} → List Digest → Type 0 → Type 0 → Result T QueryError → Type 0
TellsBeyond digests Within Beyond (Ok answer) = Within
TellsBeyond digests Within Beyond (Err (errors.Beyond head)) = Beyond × IsHead digests head
TellsBeyond digests Within Beyond (Err errors.Fault) = Within
TellsBeyond digests Within Beyond (Err errors.Memory) = Within

-- A question about a block is refused exactly if the block is after the last one.
abbrev pub TellsPastHead : {T : Type 0} → List Digest → ℕ → Result T QueryError → Type 0
TellsPastHead digests at result =
    TellsBeyond digests (at < length digests) (length digests ≤ at) result
