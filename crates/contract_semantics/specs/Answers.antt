-- How results of the program are compared with the definitions, which know neither a want of memory
-- nor a host that fails.
use Rattle.std.specs.Prelude.{◌≡◌, ℕ, ◌-◌, true, false, nat_le, List, Result, Ok, Err}
use Rattle.std.specs.List.{All}
use Rattle.lc_base.specs.declared.value.Value.{Value}
use Rattle.lc_base.specs.declared.tx_status.TxStatus.{TxStatus}
use Rattle.lc_base.specs.declared.tx_status.TxStatus.TheVariants.{OutOfSteps}
use Rattle.dep_capture.specs.Captured.{Captured}
use Rattle.dep_capture.specs.declared.access.Read.{Read}
use Rattle.dep_capture.specs.declared.access.Put.{Put}
use Rattle.world_state.specs.Known.{Known}
use Rattle.world_state.specs.World.{newest_of, is_written}
use Rattle.lc_base.specs.declared.row.Row.{Row}
use Rattle.contract_semantics.specs.declared.site.CallSite.{CallSite}
use Rattle.contract_semantics.specs.Scenes.{Place, Scene}
use Rattle.contract_semantics.specs.Steps.{Machine, Step, Done, Failed}
use Rattle.contract_semantics.specs.Reading.{BuiltinResult, block_of}
use Rattle.contract_semantics.specs.declared.stop.EvalStop.{EvalStop}
use Rattle.contract_semantics.specs.declared.stop.EvalStop.TheVariants as stops

-- What the keys of a world hold.
abbrev pub place_in : {C : Type 0} → Known C → Place
place_in world = record { newest = newest_of world; written = is_written world }

-- The scene of a world, over a host with these rows.
abbrev pub scene_in : {C : Type 0} → List Row → Known C → CallSite → Scene
scene_in rows world site = record { rows = rows; place = place_in world; site = site }

-- The result is the wanted one, seen through `view`, unless memory ran out or the host failed.
abbrev pub IsResultOf : {A B : Type 0} → (A → B) → Result B TxStatus → Result A EvalStop → Type 0
IsResultOf view wanted (Ok x) = wanted ≡ Ok (view x)
IsResultOf view wanted (Err (stops.Status status)) = wanted ≡ Err status
IsResultOf view wanted (Err stops.Fault) = Unit {0}
IsResultOf view wanted (Err stops.Memory) = Unit {0}

-- The result and the machine after it are those of the step, unless memory ran out or the host
-- failed.
abbrev pub Gives : {A B : Type 0} → (A → B) → Step B → Result A EvalStop → Machine → Type 0
Gives view step (Ok x) m = step ≡ Done (view x) m
Gives view step (Err (stops.Status status)) m = step ≡ Failed status m
Gives view step (Err stops.Fault) m = Unit {0}
Gives view step (Err stops.Memory) m = Unit {0}

-- The result and the capture after it are those of the builtin, unless memory ran out or the host
-- failed.
abbrev pub Takes : BuiltinResult → Result Value EvalStop → Captured → Type 0
Takes taken (Ok value) c = taken ≡ (Ok value, c)
Takes taken (Err (stops.Status status)) c = taken ≡ (Err status, c)
Takes taken (Err stops.Fault) c = Unit {0}
Takes taken (Err stops.Memory) c = Unit {0}

-- The capture after a read or a put: the wanted one if that succeeded, and the old one if it was
-- refused or memory ran out. No host is asked, so none fails.
abbrev pub ReadsOrRefuses : {T : Type 0} → Result Captured TxStatus → Captured → Result T EvalStop → Captured → Type 0
ReadsOrRefuses wanted old (Ok _) new = wanted ≡ Ok new
ReadsOrRefuses wanted old (Err (stops.Status status)) new = (wanted ≡ Err status) × (new ≡ old)
ReadsOrRefuses wanted old (Err stops.Fault) new = ⊥
ReadsOrRefuses wanted old (Err stops.Memory) new = new ≡ old

-- The result isn't a fault of the host.
abbrev pub IsNoFault : {A : Type 0} → Result A EvalStop → Type 0
IsNoFault (Ok x) = Unit {0}
IsNoFault (Err (stops.Status status)) = Unit {0}
IsNoFault (Err stops.Fault) = ⊥
IsNoFault (Err stops.Memory) = Unit {0}

-- The charge is taken from the budget if enough is left; else nothing is taken, and the status is
-- OutOfSteps.
abbrev pub Charges : {T : Type 0} → ℕ → ℕ → Result T TxStatus → ℕ → Type 0
Charges left charge (Ok _) new = (nat_le charge left ≡ true) × (new ≡ left - charge)
Charges left charge (Err status) new =
    (nat_le charge left ≡ false) × (status ≡ OutOfSteps) × (new ≡ left)

-- Each read has the version that its key had, and no key was put that the block has written. This
-- holds whether the rows of the host are known or not.
pub record IsFaithful (place : Place) (c : Captured) : Type 0 where
  pub reads : All (λ (read : Read). read.version ≡ block_of (place.newest read.key)) c.reads
  pub puts : All (λ (put : Put). place.written put.key ≡ false) c.puts

-- The key may be put, or it is refused with this status.
abbrev pub IsAllowed : {T : Type 0} → Result (List ℕ) TxStatus → List ℕ → Result T TxStatus → Type 0
IsAllowed wanted key (Ok _) = wanted ≡ Ok key
IsAllowed wanted key (Err status) = wanted ≡ Err status
