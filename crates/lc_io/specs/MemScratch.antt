-- The scratch device in memory: its state, and what each call does to it.
use Rattle.std.specs.Prelude.{◌≡◌, ℕ, ◌+◌, Bool, true, false, ◌&&◌, nat_le, nat_lt, MatchBool}
use Rattle.std.specs.Prelude.{List, ◌++◌, length, take, drop, Some, Result, Ok, Err}
use Rattle.lc_io.specs.Fakes.{one_more, is_failing}
use Rattle.lc_io.specs.Scratch.{ScratchState, Serves}

-- The bytes that were put, one after another; how many calls took a number, and how many of these
-- were gets; the room for calls and bytes; the numbers of the calls that fail, and how many failed.
pub record MemScratchState : Type 0 where
  pub bytes : List ℕ
  pub calls : ℕ
  pub gets : ℕ
  pub room_calls : ℕ
  pub room_bytes : ℕ
  pub failing : List ℕ
  pub faults : ℕ

-- All bytes up to the end are kept, each run of them at the offset of its first byte.
abbrev pub state_over : List ℕ → ScratchState
state_over bytes = record {
  kept = λ place count. nat_le (place + count) (length bytes);
  held = Some (λ place count. take count (drop place bytes));
}

-- Whether a call that keeps this many bytes fits the room.
abbrev pub fits_room : MemScratchState → ℕ → Bool
fits_room s count = nat_lt s.calls s.room_calls && nat_le (length s.bytes + count) s.room_bytes

-- A call that takes the next number.
abbrev pub with_call : MemScratchState → MemScratchState
with_call s = record s { calls = s.calls + 1 }

-- A get that takes the next number.
abbrev pub with_get : MemScratchState → MemScratchState
with_get s = record s { calls = s.calls + 1; gets = s.gets + 1 }

-- A call that failed.
abbrev pub with_fault : MemScratchState → MemScratchState
with_fault s = record s { faults = one_more s.faults }

-- A call that keeps `count` bytes succeeds: it fits the room, and its number is not among those
-- that fail.
abbrev pub IsDone : ℕ → MemScratchState → Type 0
IsDone count s = (fits_room s count ≡ true) × (is_failing s.failing s.calls ≡ false)

-- A call that keeps `count` bytes fails. One that does not fit the room changes nothing but the
-- count of faults. One that fits takes a number, which is among those that fail.
abbrev pub Fails : ℕ → (MemScratchState → MemScratchState)
    → MemScratchState → MemScratchState → Type 0
Fails count taken old new = MatchBool (fits_room old count)
    ((is_failing old.failing old.calls ≡ true) × (new ≡ with_fault (taken old)))
    (new ≡ with_fault old)

-- A put keeps its bytes after the others, and returns where they begin. One that fails keeps none.
abbrev pub PutsBytes : {E : Type 0} → List ℕ
    → MemScratchState → MemScratchState → Result ℕ E → Type 0
PutsBytes bytes old new (Ok place) =
    IsDone (length bytes) old × (place ≡ length old.bytes)
    × (new ≡ record (with_call old) { bytes = old.bytes ++ bytes })
PutsBytes bytes old new (Err e) = Fails (length bytes) with_call old new

-- A get fills the buffer with the bytes at a place. One that fails leaves it as it was.
abbrev pub GetsBytes : {T E : Type 0} → ℕ
    → MemScratchState → MemScratchState → Result T E → List ℕ → List ℕ → Type 0
GetsBytes place old new (Ok x) before after =
    IsDone 0 old × (after ≡ take (length before) (drop place old.bytes))
    × (new ≡ with_get old)
GetsBytes place old new (Err e) before after = (after ≡ before) × Fails 0 with_get old new

-- What every call keeps to: what was kept stays, and faults are counted.
abbrev pub ServesOver : MemScratchState → MemScratchState → Type 0 → Type 0
ServesOver = Serves (λ s. state_over s.bytes) (λ s. s.faults)
