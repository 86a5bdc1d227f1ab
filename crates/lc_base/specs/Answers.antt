-- The results of calls that may run out of memory.
use Rattle.std.specs.Prelude.{◌≡◌, Option, IfSome, Result, Ok, Err}

-- The result is this outcome, unless memory ran out: `view` says what a value stands for, and
-- `fault_of` which fault an error reports, which is `None` if it is out of memory.
abbrev pub Answers : {A B E F : Type 0} → (A → B) → (E → Option F) → Result A E → Result B F → Type 0
Answers view fault_of (Ok value) outcome = outcome ≡ Ok (view value)
Answers view fault_of (Err error) outcome = IfSome (fault_of error) (λ fault. outcome ≡ Err fault)
