-- What a crash leaves of a disk, given which of the pending bytes it keeps.
use Rattle.std.specs.Prelude.{ℕ, ◌+◌, ◌-◌, Bool, ◌&&◌, nat_eq, if◌then◌else◌, List, [], ◌∷◌, take}
use Rattle.lc_io.specs.Disk.{DiskState}
use Rattle.disk_model.specs.Disk.{is_pending, settled_disk}
use Rattle.disk_model.specs.Machine.{MachineState, new_machine, disk_after_calls}

-- The byte that a crash leaves: `fill` if the byte is pending and no further pending byte is kept,
-- else the byte.
abbrev pub kept_byte : Bool → ℕ → ℕ → ℕ → ℕ
kept_byte pending keep fill byte = if pending && nat_eq keep 0 then fill else byte

-- How many pending bytes are still to be kept after this one.
abbrev pub keep_after : Bool → ℕ → ℕ
keep_after pending keep = if pending then keep - 1 else keep

-- The bytes from an offset on. The first `keep` of the pending ones stay, and each later one is
-- replaced by `fill`.
abbrev pub fill_pending : List (ℕ × ℕ) → ℕ → ℕ → ℕ → List ℕ → List ℕ
fill_pending pending fill keep offset [] = []
fill_pending pending fill keep offset (byte ∷ bytes) =
    kept_byte (is_pending pending offset) keep fill byte ∷ fill_pending pending fill (keep_after (is_pending pending offset) keep) (offset + 1) bytes

-- What a crash leaves that keeps the first `keep` pending bytes of the content and puts `fill` in
-- place of the others. A short one leaves no more than was synced.
abbrev pub crash_image : ℕ → ℕ → Bool → DiskState → List ℕ
crash_image keep fill short state =
    if short then take state.synced (fill_pending state.pending fill keep 0 state.content) else fill_pending state.pending fill keep 0 state.content

-- The machine over what such a crash at a moment leaves. It has the room of the old one, and none
-- of its calls is to fail.
abbrev pub crashed_machine : ℕ → ℕ → ℕ → Bool → MachineState → MachineState
crashed_machine moment keep fill short m =
    new_machine (crash_image keep fill short (disk_after_calls (settled_disk m.first) (take moment m.calls))) m.room_calls m.room_bytes []
