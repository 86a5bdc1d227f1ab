-- A step goes from one machine to the next; a failure keeps the machine, so its cost and its reads
-- are known.
use Rattle.std.specs.Prelude.{ℕ, ◌-◌, nat_le, if◌then◌else◌, Result, Ok, Err}
use Rattle.lc_base.specs.declared.tx_status.TxStatus.{TxStatus}
use Rattle.lc_base.specs.declared.tx_status.TxStatus.TheVariants.{OutOfSteps}
use Rattle.dep_capture.specs.Captured.{Captured}

-- What is left of a call's budget, and what the call has read and put.
pub record Machine : Type 0 where
  pub left : ℕ
  pub capture : Captured

-- The machine with these parts.
abbrev pub machine : ℕ → Captured → Machine
machine left capture = record { left = left; capture = capture }

-- A result or the status of a failure, with the machine after it.
pub data Step (A : Type 0) : Type 0 where
  Done : A → Machine → Step A
  Failed : TxStatus → Machine → Step A

-- The machine after a step.
abbrev pub after : {A : Type 0} → Step A → Machine
after (Done x m) = m
after (Failed status m) = m

-- The next step, with the result of the first; a failure stops here.
abbrev pub and_then : {A B : Type 0} → Step A → (A → Machine → Step B) → Step B
and_then (Done x m) next = next x m
and_then (Failed status m) next = Failed status m

-- The next step after a charge. A charge larger than what is left isn't taken, and the step is
-- OutOfSteps.
abbrev pub after_charge : {B : Type 0} → ℕ → Machine → (Machine → Step B) → Step B
after_charge charge m next =
    if nat_le charge m.left then next (record m { left = m.left - charge }) else Failed OutOfSteps m

-- A result that leaves the machine as it is.
abbrev pub step_of_result : {A : Type 0} → Result A TxStatus → Machine → Step A
step_of_result (Ok x) m = Done x m
step_of_result (Err status) m = Failed status m

-- The next result, made from the first; a failure stops here.
abbrev pub and_so : {A B : Type 0} → Result A TxStatus → (A → Result B TxStatus) → Result B TxStatus
and_so (Ok x) next = next x
and_so (Err status) next = Err status
