-- The scratch device over a file: how much it keeps is known, but not which bytes.
use Rattle.std.specs.Prelude.{◌≡◌, ℕ, ◌+◌, nat_le, None, Result, Ok, Err}
use Rattle.lc_io.specs.Scratch.{ScratchState, Serves}
use Rattle.file_scratch.specs.Gathered.{end_of}
use Rattle.file_scratch.specs.declared.device.ScratchOver.{ScratchOver}

-- All bytes up to this end are kept, and it is not known which they are.
abbrev pub unknown_up_to : ℕ → ScratchState
unknown_up_to end = record { kept = λ place count. nat_le (place + count) end; held = None }

-- How many bytes were put: those in the file and those that are gathered.
abbrev pub len_of : {C : Type 0} → ScratchOver C → ℕ
len_of scratch = end_of scratch.gathered

-- A put of `count` bytes keeps them at the end, which moves past them. One that fails keeps none.
abbrev pub PutsAtEnd : {E : Type 0} → ℕ → ℕ → ℕ → Result ℕ E → Type 0
PutsAtEnd count old new (Ok place) = (place ≡ old) × (new ≡ old + count)
PutsAtEnd count old new (Err e) = new ≡ old

-- What every call keeps to: what was kept stays, and faults are counted.
abbrev pub ServesUnknown : {C : Type 0} → ScratchOver C → ScratchOver C → Type 0 → Type 0
ServesUnknown = Serves (λ s. unknown_up_to (len_of s)) (λ s. s.faults)
