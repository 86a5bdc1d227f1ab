-- A machine in memory: what its disk held at first, its calls, and what each call does.
use Rattle.std.specs.Prelude.{◌≡◌, ℕ, ◌+◌, Bool, true, false, ◌&&◌, nat_le, nat_lt, MatchBool, List, [], ◌∷◌, ◌++◌, length, take, drop, Option, Some, Result, Ok, Err}
use Rattle.lc_io.specs.Disk.{DiskState}
use Rattle.lc_io.specs.Outside.{Tell}
use Rattle.lc_io.specs.Fakes.{is_failing, one_more}
use Rattle.disk_model.specs.Disk.{settled_disk, disk_after_write, with_pending}

-- ---- the calls, and what they leave

-- What a call that took a number did: it wrote bytes at an offset; it failed to write, given an
-- offset and a length; it synced; it printed bytes; or it did nothing, such as a read, or a failed
-- call that is no write.
pub data Call : Type 0 where
  Wrote : ℕ → List ℕ → Call
  FailedWrite : ℕ → ℕ → Call
  Synced : Call
  Told : List ℕ → Call
  Idle : Call

-- The disk after a call. A write that fails leaves the content as it was, with its range pending.
abbrev pub after_call : DiskState → Call → DiskState
after_call state (Wrote at bytes) = disk_after_write at bytes state
after_call state (FailedWrite at count) = with_pending at count state.content state
after_call state Synced = settled_disk state.content
after_call state (Told bytes) = state
after_call state Idle = state

-- The disk after calls, one after another.
abbrev pub disk_after_calls : DiskState → List Call → DiskState
disk_after_calls state [] = state
disk_after_calls state (call ∷ calls) = disk_after_calls (after_call state call) calls

-- The pieces that calls printed, each with the number of its call, if the first call has this
-- number.
abbrev pub tells_from : ℕ → List Call → List Tell
tells_from number [] = []
tells_from number (Told bytes ∷ calls) = record { at = number; bytes = bytes } ∷ tells_from (number + 1) calls
tells_from number (call ∷ calls) = tells_from (number + 1) calls

-- ---- the machine

-- A machine in memory: what its disk held at first, with nothing pending, the calls that took a
-- number, how many bytes were printed or written, the room for both, the numbers of the calls that
-- fail, and how many calls of the disk and of the wire failed.
pub record MachineState : Type 0 where
  pub first : List ℕ
  pub calls : List Call
  pub bytes : ℕ
  pub room_calls : ℕ
  pub room_bytes : ℕ
  pub failing : List ℕ
  pub disk_faults : ℕ
  pub wire_faults : ℕ

-- A machine over these bytes with nothing pending and no call made, with this room for calls and
-- bytes, and with these calls to fail.
abbrev pub new_machine : List ℕ → ℕ → ℕ → List ℕ → MachineState
new_machine first room_calls room_bytes failing = record { first = first; calls = []; bytes = 0; room_calls = room_calls; room_bytes = room_bytes; failing = failing; disk_faults = 0; wire_faults = 0 }

-- The present moment is the one after all calls.
abbrev pub now_of : MachineState → ℕ
now_of m = length m.calls

-- The disk at a moment: what it was at first, after the calls up to that moment.
abbrev pub disk_of : MachineState → ℕ → Option DiskState
disk_of m t = Some (disk_after_calls (settled_disk m.first) (take t m.calls))

-- The content now.
abbrev pub content_now : MachineState → List ℕ
content_now m = (disk_after_calls (settled_disk m.first) m.calls).content

-- What was printed, each piece with the moment at which its printing began.
abbrev pub tells_of : MachineState → List Tell
tells_of m = tells_from 0 m.calls

-- All that was printed, which is known of a machine in memory.
abbrev pub told_of : MachineState → Option (List Tell)
told_of m = Some (tells_of m)

-- ---- what a call does

-- Whether a call with `count` bytes, printed or written, fits the room.
abbrev pub has_room : MachineState → ℕ → Bool
has_room m count = nat_lt (length m.calls) m.room_calls && nat_le (m.bytes + count) m.room_bytes

-- Whether the next call that takes a number is to fail.
abbrev pub is_next_failing : MachineState → Bool
is_next_failing m = is_failing m.failing (length m.calls)

-- One more call, with `count` bytes printed or written.
abbrev pub with_call : Call → ℕ → MachineState → MachineState
with_call call count m = record m { calls = m.calls ++ call ∷ []; bytes = m.bytes + count }

-- One more failed call of the disk.
abbrev pub with_disk_fault : MachineState → MachineState
with_disk_fault m = record m { disk_faults = one_more m.disk_faults }

-- One more failed call of the wire.
abbrev pub with_wire_fault : MachineState → MachineState
with_wire_fault m = record m { wire_faults = one_more m.wire_faults }

-- Whether a call with `count` bytes succeeds, and what is recorded if it does and if it fails. Its
-- fault is not counted yet.
abbrev pub Attempts : ℕ → Call → Call → MachineState → MachineState → Bool → Type 0
Attempts count done failed old new true = (has_room old count ≡ true) × (is_next_failing old ≡ false) × (new ≡ with_call done count old)
Attempts count done failed old new false = MatchBool (has_room old count) ((is_next_failing old ≡ true) × (new ≡ with_call failed 0 old)) (new ≡ old)

-- A call with `count` bytes, given what is recorded if it succeeds and if it fails. One that does
-- not fit the room changes nothing but the count of faults. One that fits takes a number, and fails
-- exactly if that number is among the failing ones.
abbrev pub Makes : {T E : Type 0} → ℕ → Call → Call → (MachineState → MachineState) → MachineState → MachineState → Result T E → Type 0
Makes count done failed with_fault old new (Ok x) = (has_room old count ≡ true) × (is_next_failing old ≡ false) × (new ≡ with_call done count old)
Makes count done failed with_fault old new (Err e) = MatchBool (has_room old count)
    ((is_next_failing old ≡ true) × (new ≡ with_fault (with_call failed 0 old)))
    (new ≡ with_fault old)

-- A read, or a call for the length, changes nothing of disk and wire.
abbrev pub MakesRead : {T E : Type 0} → MachineState → MachineState → Result T E → Type 0
MakesRead old new result = Makes 0 Idle Idle with_disk_fault old new result

-- A write that fails leaves the content as it was, with its range pending.
abbrev pub MakesWrite : {T E : Type 0} → ℕ → List ℕ → MachineState → MachineState → Result T E → Type 0
MakesWrite at bytes old new result = Makes (length bytes) (Wrote at bytes) (FailedWrite at (length bytes)) with_disk_fault old new result

-- A sync that fails leaves pending what was pending.
abbrev pub MakesSync : {T E : Type 0} → MachineState → MachineState → Result T E → Type 0
MakesSync old new result = Makes 0 Synced Idle with_disk_fault old new result

-- A call of the wire that fails prints no byte.
abbrev pub MakesTell : {T E : Type 0} → List ℕ → MachineState → MachineState → Result T E → Type 0
MakesTell bytes old new result = Makes (length bytes) (Told bytes) Idle with_wire_fault old new result

-- A read that succeeds puts the bytes into the prefix of the buffer, and leaves the rest of it. One
-- that fails leaves the buffer as it was.
abbrev pub FillsBuffer : {E : Type 0} → ℕ → List ℕ → Result ℕ E → List ℕ → List ℕ → Type 0
FillsBuffer at content (Ok n) before after = (n ≡ length (take (length before) (drop at content))) × (after ≡ take (length before) (drop at content) ++ drop n before)
FillsBuffer at content (Err e) before after = after ≡ before
