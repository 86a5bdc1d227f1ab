-- Exit statuses: each has a number of its own.
use Rattle.std.specs.Prelude.{ℕ}
use Rattle.cli_lines.specs.declared.status.Status.{Status}
use Rattle.cli_lines.specs.declared.status.Status.TheVariants as statuses

-- The exit number of a status.
abbrev pub status_number : Status → ℕ
status_number statuses.Done = 0
status_number statuses.Usage = 1
status_number statuses.Unreadable = 2
status_number statuses.Untold = 3
status_number statuses.DiskFault = 4
status_number statuses.Memory = 5
status_number statuses.NotALog = 6
status_number statuses.Damaged = 7
status_number statuses.Refused = 8
status_number statuses.Beyond = 9
status_number statuses.Rejected = 10
status_number statuses.BadInput = 11
status_number statuses.ScratchFault = 12
