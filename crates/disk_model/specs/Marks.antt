-- How a machine in memory records its calls: a mark for each, and the bytes of all, one after
-- another.
use Rattle.std.specs.Prelude.{◌≡◌, ℕ, ◌+◌, ◌≤◌, Bool, true, false, List, [], ◌∷◌, take, drop, vec_len, vec_capacity}
use Rattle.disk_model.specs.Disk.{settled_disk, bytes_over}
use Rattle.disk_model.specs.declared.mem_machine.Mark.{Mark}
use Rattle.disk_model.specs.declared.mem_machine.Mark.TheVariants as marks
use Rattle.disk_model.specs.declared.mem_machine.MemMachine.TheInside.{Inside}
use Rattle.disk_model.specs.Machine.{Call, Wrote, FailedWrite, Synced, Told, Idle, MachineState, disk_after_calls}

-- How many of the recorded bytes belong to a call.
abbrev pub kept_len : Mark → ℕ
kept_len (marks.Wrote at len) = len
kept_len (marks.FailedWrite at len) = 0
kept_len marks.Synced = 0
kept_len (marks.Told len) = len
kept_len marks.Idle = 0

-- Whether a call printed bytes.
abbrev pub is_told : Mark → Bool
is_told (marks.Wrote at len) = false
is_told (marks.FailedWrite at len) = false
is_told marks.Synced = false
is_told (marks.Told len) = true
is_told marks.Idle = false

-- The call of a mark, with its bytes.
abbrev pub call_of : Mark → List ℕ → Call
call_of (marks.Wrote at len) bytes = Wrote at bytes
call_of (marks.FailedWrite at len) bytes = FailedWrite at len
call_of marks.Synced bytes = Synced
call_of (marks.Told len) bytes = Told bytes
call_of marks.Idle bytes = Idle

-- The calls that marks stand for; each takes its bytes from the front of what is left.
abbrev pub calls_of : List Mark → List ℕ → List Call
calls_of [] bytes = []
calls_of (mark ∷ others) bytes = call_of mark (take (kept_len mark) bytes) ∷ calls_of others (drop (kept_len mark) bytes)

-- How many bytes all calls have.
abbrev pub total_len : List Mark → ℕ
total_len [] = 0
total_len (mark ∷ others) = kept_len mark + total_len others

-- The content after a call.
abbrev pub changed_by : Mark → List ℕ → List ℕ → List ℕ
changed_by (marks.Wrote at len) bytes content = bytes_over at bytes content
changed_by (marks.FailedWrite at len) bytes content = content
changed_by marks.Synced bytes content = content
changed_by (marks.Told len) bytes content = content
changed_by marks.Idle bytes content = content

-- What the parts of a machine stand for.
abbrev pub machine_state : Inside → MachineState
machine_state m = record {
  first = m.first.items;
  calls = calls_of m.marks.items m.bytes.items;
  bytes = vec_len m.bytes;
  room_calls = m.room.calls;
  room_bytes = m.room.bytes;
  failing = m.failing.items;
  disk_faults = m.disk_faults;
  wire_faults = m.wire_faults;
}

-- The content is what the calls left, the bytes are those of the marks, and there is memory for as
-- many calls and bytes as fit the room.
pub record IsSoundInside (m : Inside) : Type 0 where
  pub content : m.content.items ≡ (disk_after_calls (settled_disk m.first.items) (calls_of m.marks.items m.bytes.items)).content
  pub whole : total_len m.marks.items ≡ vec_len m.bytes
  pub few : vec_len m.marks ≤ m.room.calls
  pub mark_room : m.room.calls ≤ vec_capacity m.marks
  pub short : vec_len m.bytes ≤ m.room.bytes
  pub byte_room : m.room.bytes ≤ vec_capacity m.bytes
  pub no_longer : vec_len m.content ≤ vec_len m.first + vec_len m.bytes
  pub content_room : vec_len m.first + m.room.bytes ≤ vec_capacity m.content
