-- What the head of a log says, and what is at a gate.
use Rattle.std.specs.Prelude.{◌≡◌, ℕ, Bool, true, false, ◌&&◌, ◌==◌, nat_le, nat_lt, if◌then◌else◌}
use Rattle.std.specs.Prelude.{List, [], ◌∷◌, length, take, drop, get_or}
use Rattle.std.specs.Cmp.Lexicographic.{pointwise}
use Rattle.std.specs.Int.{w32, from_be_bytes}
use Rattle.block_codec.specs.declared.limits.TheConstants.{MAX_BLOCK_BYTES}
use Rattle.block_log.specs.Standing.{magic, is_log, is_blank}
use Rattle.block_log.specs.declared.layout.TheConstants.{OPEN_GATE, FIRST_GATE}
use Rattle.block_log.specs.declared.reading.Head.{Head}
use Rattle.block_log.specs.declared.reading.Head.TheVariants as heads
use Rattle.block_log.specs.declared.reading.Record.{Record}
use Rattle.block_log.specs.declared.reading.Record.TheVariants as records

-- ---- the head

-- Whether the bytes have the magic, and the gate of the first record.
abbrev pub has_magic : List ℕ → Bool
has_magic image = nat_lt FIRST_GATE (length image) && pointwise ◌==◌ (take 7 (drop 1 image)) magic

-- What the head of some bytes says they are.
unfoldable pub head_of : List ℕ → Head
head_of image = if is_log image then heads.Log else (if is_blank image then heads.Blank (get_or image 0 1 == 0) else heads.Other)

-- ---- a record

-- A record with this length, if a record may have it. The one with length 0 is a mark.
abbrev pub sized_record : ℕ → Record
sized_record size = if nat_le size MAX_BLOCK_BYTES then records.Open size else records.Broken

-- What follows an open gate: a record, if its length is there.
abbrev pub opened_record : List ℕ → Record
opened_record bytes = if nat_lt (length bytes) 4 then records.Broken else sized_record (from_be_bytes w32 (take 4 bytes))

-- What a gate and the length after it say.
unfoldable pub gate_of : List ℕ → Record
gate_of [] = records.Broken
gate_of (byte ∷ bytes) = if byte == OPEN_GATE then opened_record bytes else records.Closed

-- A record, if after its length there are as many bytes as it says, and one more.
abbrev pub whole_record : Record → List ℕ → Record
whole_record records.Closed bytes = records.Closed
whole_record records.Broken bytes = records.Broken
whole_record (records.Open size) bytes = if nat_lt size (length bytes) then records.Open size else records.Broken

-- What is at the gate with which some bytes begin.
unfoldable pub record_of : List ℕ → Record
record_of bytes = whole_record (gate_of bytes) (drop 5 bytes)

-- Whether there is no whole record.
abbrev pub is_broken : Record → Bool
is_broken records.Closed = false
is_broken records.Broken = true
is_broken (records.Open size) = false

-- The number of bytes of the block of a record.
abbrev pub record_size : Record → ℕ
record_size records.Closed = 0
record_size records.Broken = 0
record_size (records.Open size) = size

-- The block of a record is at the front of the buffer.
abbrev pub IsBuffered : Record → List ℕ → List ℕ → Type 0
IsBuffered found buffer bytes = take (record_size found) buffer ≡ take (record_size found) bytes

-- Whether there are `size` bytes and one more; if so, the `size` bytes are at the front of the
-- buffer.
abbrev pub IsBody : Bool → ℕ → List ℕ → List ℕ → Type 0
IsBody true size buffer bytes = (nat_lt size (length bytes) ≡ true) × (take size buffer ≡ take size bytes)
IsBody false size buffer bytes = nat_lt size (length bytes) ≡ false
