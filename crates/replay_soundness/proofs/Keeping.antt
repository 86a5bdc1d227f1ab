-- What computations preserve: values stay values, and captures stay lawful and typed.
use Rattle.std.proofs.Common.{ℕ, ℤ, ◌-◌, Bool, true, false, Option, Some, None, Result, Ok, Err, if◌then◌else◌}
use Rattle.std.specs.Prelude.{IfOk, IfSome, nat_le}
use Rattle.std.specs.Int.{w64}
use Rattle.std.specs.Int.RustNames.{FitsSigned}
use Rattle.std.specs.List.{All}
use Rattle.lc_base.specs.KeyBytes.{IsKey}
use Rattle.lc_base.specs.declared.value.Value.{Value}
use Rattle.lc_base.specs.declared.value.Value.TheVariants as values
use Rattle.lc_base.specs.declared.tx_status.TxStatus.{TxStatus}
use Rattle.lc_base.specs.declared.tx_status.TxStatus.TheVariants as statuses
use Rattle.byte_fields.specs.Spelling.{IsValue}
use Rattle.dep_capture.specs.Captured.{Captured, IsCapture}
use Rattle.dep_capture.specs.declared.access.Put.{Put}
use Rattle.contract_semantics.specs.Steps.{Machine, Step, Done, Failed, and_then, after_charge, step_of_result}
use Rattle.contract_semantics.specs.Expressions.{unless_decided}

-- A put of a value under a key.
pub record IsTypedPut (put : Put) : Type 0 where
  pub key_is_key : IsKey put.key
  pub value_is_value : IsValue put.value

-- A lawful capture of typed puts.
pub record IsTyped (c : Captured) : Type 0 where
  pub lawful : IsCapture c.reads c.puts
  pub puts : All IsTypedPut c.puts

-- If a step is done, this holds of its result, and the capture is typed.
abbrev pub Ends : {A : Type 0} → (A → Type 0) → Step A → Type 0
Ends P (Done x m) = P x × IsTyped m.capture
Ends P (Failed status m) = Unit {0}

pub record Keeps {A : Type 0} (P : A → Type 0) (f : Machine → Step A) : Type 0 where
  pub ends : (m : Machine) → IsTyped m.capture → Ends P (f m)

pub keeps_done : {A : Type 0} {P : A → Type 0} (x : A) → P x → Keeps P (λ m. Done x m)
keeps_done x p = record { ends = λ m h. (p, h) }

pub keeps_failed : {A : Type 0} {P : A → Type 0} (status : TxStatus) → Keeps P (λ m. Failed status m)
keeps_failed status = record { ends = λ m h. tt }

pub keeps_given : {A : Type 0} {P : A → Type 0} (r : Result A TxStatus) → IfOk r P → Keeps P (λ m. step_of_result r m)
keeps_given (Ok x) p = keeps_done x p
keeps_given (Err status) p = keeps_failed status

charged_by : {A : Type 0} (P : A → Type 0) (n : ℕ) (f : Machine → Step A) (m : Machine) (b : Bool) → Ends P (f (record m { left = m.left - n })) → Ends P (if b then f (record m { left = m.left - n }) else Failed statuses.OutOfSteps m)
charged_by P n f m true h = h
charged_by P n f m false h = tt

pub keeps_charged : {A : Type 0} {P : A → Type 0} (n : ℕ) {f : Machine → Step A} → Keeps P f → Keeps P (λ m. after_charge n m f)
keeps_charged {A} {P} n {f} h = record { ends = λ m k. charged_by P n f m (nat_le n m.left) (h.ends (record m { left = m.left - n }) k) }

then_ends : {A B : Type 0} (P : A → Type 0) (Q : B → Type 0) (step : Step A) (g : A → Machine → Step B) → ((x : A) → P x → Keeps Q (g x)) → Ends P step → Ends Q (and_then step g)
then_ends P Q (Done x n) g h k = (h x k.0).ends n k.1
then_ends P Q (Failed status n) g h k = tt

pub keeps_then : {A B : Type 0} {P : A → Type 0} {Q : B → Type 0} {f : Machine → Step A} {g : A → Machine → Step B} → Keeps P f → ((x : A) → P x → Keeps Q (g x)) → Keeps Q (λ m. and_then (f m) g)
keeps_then {A} {B} {P} {Q} {f} {g} h k = record { ends = λ m c. then_ends P Q (f m) g k (h.ends m c) }

pub keeps_if : {A : Type 0} {P : A → Type 0} (b : Bool) {f g : Machine → Step A} → Keeps P f → Keeps P g → Keeps P (λ m. if b then f m else g m)
keeps_if true h k = h
keeps_if false h k = k

pub keeps_unless : (d : Option ℤ) → IfSome d (FitsSigned w64) → {f : Machine → Step Value} → Keeps IsValue f → Keeps IsValue (λ m. unless_decided d (f m) m)
keeps_unless None p h = h
keeps_unless (Some z) p h = keeps_done (values.Int z) p
