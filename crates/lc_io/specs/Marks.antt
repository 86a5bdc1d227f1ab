-- The pieces that marks name in a record of bytes.
use Rattle.std.specs.Prelude.{ℕ, ◌≤◌, List, length, map}
use Rattle.std.specs.List.{slice_range, AllByRecursion}
use Rattle.std.specs.Global.{Vec}
use Rattle.std.specs.Vec.{vec_len, vec_capacity}
use Rattle.lc_io.specs.Outside.{Tell}
use Rattle.lc_io.specs.declared.mem_wire.Mark.{Mark}

-- The piece that a mark names.
abbrev pub piece_at : List ℕ → Mark → Tell
piece_at bytes mark = record { at = mark.at; bytes = slice_range bytes mark.start mark.end }

-- The pieces that marks name.
abbrev pub pieces : List ℕ → List Mark → List Tell
pieces bytes marks = map (piece_at bytes) marks

-- A mark names bytes of the record.
abbrev pub IsWithin : ℕ → Mark → Type 0
IsWithin len mark = (mark.start ≤ mark.end) × (mark.end ≤ len)

-- A record with at least this room for marks and bytes, in which each mark names bytes of the
-- record.
pub record IsRecord (room_calls room_bytes calls : ℕ) (marks : Vec Mark) (bytes : Vec ℕ) : Type 0 where
  pub few : vec_len marks ≤ calls
  pub mark_room : room_calls ≤ vec_capacity marks
  pub byte_room : room_bytes ≤ vec_capacity bytes
  pub within : AllByRecursion (IsWithin (length bytes.items)) marks.items
