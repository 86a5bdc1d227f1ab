-- What a crash may leave of a disk, and what the calls of a disk do to it.
use Rattle.std.specs.Prelude.{◌≡◌, ◌⊎◌, ℕ, ◌+◌, ◌≤◌, ◌<◌, max, Bool, false, ◌&&◌, nat_le, nat_lt, List, [], ◌∷◌, ◌++◌, length, take, drop, get_or, Option, Some, None, Result, Ok, Err}
use Rattle.std.specs.List.{list_any}
use Rattle.std.specs.Option.{option_map, is_some}
use Rattle.lc_io.specs.Disk.{DiskState, Turns, Stays}

-- ---- what a crash may leave

-- Whether one of these writes, each an offset and a length, covers the byte at this offset.
abbrev pub is_pending : List (ℕ × ℕ) → ℕ → Bool
is_pending pending i = list_any (λ write. nat_le write.0 i && nat_lt i (write.0 + write.1)) pending

-- What a crash may leave: the bytes of the content, but any bytes in the place of pending ones, and
-- any length from that of the last sync to the greatest one since.
pub record IsImage (state : DiskState) (image : List ℕ) : Type 0 where
  pub no_shorter : state.synced ≤ length image
  pub no_longer : length image ≤ state.most
  pub same : (i : ℕ) → i < length image → is_pending state.pending i ≡ false → get_or image i 0 ≡ get_or state.content i 0

-- A disk with this content and nothing pending: a crash can leave the content only.
abbrev pub settled_disk : List ℕ → DiskState
settled_disk content = record { content = content; synced = length content; most = length content; pending = [] }

-- The content, if the disk is known.
abbrev pub content_of : Option DiskState → Option (List ℕ)
content_of state = option_map (λ s. s.content) state

-- If the disk is known, nothing is pending.
abbrev pub IsSettled : Option DiskState → Type 0
IsSettled None = Unit {0}
IsSettled (Some state) = state ≡ settled_disk state.content

-- If the disk is known, nothing is pending, and P holds of the content.
abbrev pub Rests : Option DiskState → (List ℕ → Type 0) → Type 0
Rests None P = Unit {0}
Rests (Some state) P = (state ≡ settled_disk state.content) × P state.content

-- ---- what a write and a sync do

-- The content with these bytes at an offset, over those that are there and past the end.
abbrev pub bytes_over : ℕ → List ℕ → List ℕ → List ℕ
bytes_over at bytes content = take at content ++ bytes ++ drop (at + length bytes) content

-- The disk with another content and one more write pending, which has this offset and length.
abbrev pub with_pending : ℕ → ℕ → List ℕ → DiskState → DiskState
with_pending at count content state = record { content = content; synced = state.synced; most = max state.most (at + count); pending = (at, count) ∷ state.pending }

-- The disk with these bytes written at an offset.
abbrev pub disk_after_write : ℕ → List ℕ → DiskState → DiskState
disk_after_write at bytes state = with_pending at (length bytes) (bytes_over at bytes state.content) state

-- The new bytes are the old ones, but with any bytes in this range; they may be longer, up to the
-- end of the range.
pub record Torn (at count : ℕ) (old new : List ℕ) : Type 0 where
  pub before : take at new ≡ take at old
  pub after : drop (at + count) new ≡ drop (at + count) old
  pub no_shorter : length old ≤ length new
  pub no_longer : length new ≤ max (length old) (at + count)

-- A write that succeeds leaves the bytes in place, pending. One that fails changes nothing, or
-- leaves any bytes there, pending.
abbrev pub Writes : {T E D : Type 0} → (D → ℕ) → (D → ℕ → Option DiskState) → D → D → ℕ → List ℕ → Result T E → Type 0
Writes now disk old new at bytes (Ok x) = Turns now disk old new (option_map (disk_after_write at bytes) (disk old (now old)))
Writes now disk old new at bytes (Err e) = Stays now disk old new
    ⊎ ((content : List ℕ) × ((state : DiskState) → disk old (now old) ≡ Some state → Torn at (length bytes) state.content content)
    × Turns now disk old new (option_map (with_pending at (length bytes) content) (disk old (now old))))

-- A sync that succeeds leaves the content with nothing pending. One that fails changes nothing.
abbrev pub Syncs : {T E D : Type 0} → (D → ℕ) → (D → ℕ → Option DiskState) → D → D → Result T E → Type 0
Syncs now disk old new (Ok x) = Turns now disk old new (option_map (λ state. settled_disk state.content) (disk old (now old)))
Syncs now disk old new (Err e) = Stays now disk old new

-- ---- what crashes over some time may leave

-- A crash at some moment since `since` may have left these bytes.
abbrev pub LeftSince : {D : Type 0} → (D → ℕ) → (D → ℕ → Option DiskState) → D → ℕ → List ℕ → Type 0
LeftSince now disk machine since image =
    (t : ℕ) × (since ≤ t) × (t ≤ now machine) × (state : DiskState) × (disk machine t ≡ Some state) × IsImage state image

-- P holds of whatever a crash at a moment from the old state to the new one may leave. Earlier
-- moments keep their states, and the disk is known at the end exactly if it was at the start.
pub record Keeps {D : Type 0} (now : D → ℕ) (disk : D → ℕ → Option DiskState) (old new : D) (P : List ℕ → Type 0) : Type 0 where
  pub later : now old ≤ now new
  pub past : (t : ℕ) → t ≤ now old → disk new t ≡ disk old t
  pub each : (t : ℕ) (state : DiskState) (image : List ℕ) → now old ≤ t → t ≤ now new → disk new t ≡ Some state → IsImage state image → P image
  pub told : is_some (disk new (now new)) ≡ is_some (disk old (now old))
