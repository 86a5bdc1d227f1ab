-- The numbers of the statuses, as they are printed.
use Rattle.std.specs.Prelude.{ℕ}
use Rattle.lc_base.specs.declared.tx_status.TxStatus.{TxStatus}
use Rattle.lc_base.specs.declared.tx_status.TxStatus.TheVariants as statuses

-- The number that is printed for a transaction's status.
abbrev pub tx_status_number : TxStatus → ℕ
tx_status_number statuses.Ok = 0
tx_status_number statuses.Conflict = 1
tx_status_number statuses.NoKey = 2
tx_status_number statuses.Foreign = 3
tx_status_number statuses.NoContract = 4
tx_status_number statuses.NoFunction = 5
tx_status_number statuses.BadArgs = 6
tx_status_number statuses.OutOfSteps = 7
tx_status_number statuses.Overflow = 8
tx_status_number statuses.DivZero = 9
tx_status_number statuses.WrongKind = 10
tx_status_number statuses.BadBlock = 11
tx_status_number statuses.BadIndex = 12
tx_status_number statuses.TextTooLong = 13
tx_status_number statuses.BadKey = 14
tx_status_number statuses.Taken = 15
tx_status_number statuses.BadSource = 16
tx_status_number statuses.TooMany = 17
tx_status_number statuses.NotRead = 18
tx_status_number statuses.Failed = 19
