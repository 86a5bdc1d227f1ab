-- What reading a log returns, block by block.
use Rattle.std.specs.Prelude.{◌≡◌, ℕ, ◌+◌, ◌-◌, ◌*◌, ◌≤◌, ◌<◌, Bool, true, false, List, [], ◌∷◌}
use Rattle.std.specs.Prelude.{◌++◌, take, drop, Option, Some, Result, Ok, Err}
use Rattle.lc_base.specs.declared.digest.Digest.{Digest}
use Rattle.block_codec.specs.Spelling.{IsBlock}
use Rattle.block_codec.specs.Reading.{block_in}
use Rattle.block_codec.specs.Placement.{digest_of, no_parent, new_placement, wanted_version}
use Rattle.block_codec.specs.declared.limits.TheConstants.{MAX_MARKED_BLOCKS}
use Rattle.block_codec.specs.declared.block.Block.{Block}
use Rattle.block_log.specs.Standing.{NotALog, Damaged, Holds, next_block, records_at, standing}
use Rattle.block_log.specs.Ahead.{ReaderState, IsAhead}
use Rattle.block_log.specs.Log.{LogState, AreStored, HoldsBlocks, IsSmall, IsStarted, next_in_log}
use Rattle.block_log.specs.Log.{records_of}
use Rattle.block_log.specs.declared.layout.TheConstants.{FIRST_GATE, MAX_RECORD_BYTES, MAX_RECORDS}
use Rattle.block_log.specs.declared.layout.Stored.{Stored}
use Rattle.block_log.specs.declared.error.LogError.{LogError}
use Rattle.block_log.specs.declared.error.LogError.TheVariants as errors
use Rattle.block_log.specs.Reading.{record_of, record_size}
use Rattle.block_log.specs.declared.reading.Record.{Record}
use Rattle.block_log.specs.declared.reader.Found.{Found}
use Rattle.block_log.specs.declared.reader.Found.TheVariants as founds
use Rattle.block_log.specs.declared.reader.Turn.{Turn}
use Rattle.block_log.specs.declared.reader.Turn.TheVariants as turns
use Rattle.lc_base.specs.declared.host_error.HostError.{HostError}
use Rattle.lc_base.specs.declared.host_error.HostError.TheVariants as faults
use Rattle.block_log.specs.declared.start.Opened.{Opened}
use Rattle.block_log.specs.declared.start.Opened.TheVariants as openeds

-- ---- logs

-- A log of `count` blocks, the last of which has the digest `last`, with its next gate at the
-- offset `gate`, which is marked or isn't.
abbrev pub log_at : ℕ → ℕ → Digest → Bool → LogState
log_at gate count last marked = record { gate = gate; count = count; last = last; is_ready = true; is_begun = false; is_marked = marked }

-- A log without a head.
abbrev pub blank_log : Bool → LogState
blank_log is_begun = record { gate = FIRST_GATE; count = 0; last = no_parent; is_ready = false; is_begun = is_begun; is_marked = false }

-- The reader of such a log, with these bytes read ahead.
abbrev pub reader_at : ℕ → ℕ → Digest → Bool → List ℕ → ReaderState
reader_at gate count last marked ahead = record { gate = gate; count = count; last = last; is_marked = marked; ahead = ahead }

-- The log of the blocks that a reader has read.
abbrev pub log_of : ReaderState → LogState
log_of reader = log_at reader.gate reader.count reader.last reader.is_marked

-- ---- blocks that are read one after another

-- These blocks were read so far. Also if the content is not known, they are a chain, each with its
-- digest, and the log is that of them, up to the next gate. If the content is known, it stands for
-- what the records from that gate on stand for after these blocks.
pub record AreReadTo (log : LogState) (content : Option (List ℕ)) (stored : List Stored) : Type 0 where
  pub are_stored : AreStored stored
  pub held : HoldsBlocks log stored
  pub stands : (image : List ℕ) → content ≡ Some image
      → standing next_in_log image ≡ records_at next_in_log (MAX_RECORDS + 1 - records_of log) log.is_marked log.gate stored (drop log.gate image)

-- These blocks were read so far by a reader. What it has read ahead is what is there.
pub record AreRead (reader : ReaderState) (content : Option (List ℕ)) (stored : List Stored) : Type 0 where
  pub read : AreReadTo (log_of reader) content stored
  pub ahead : IsAhead reader.gate reader.ahead content

-- These blocks were read, and they are all. Also if the content is not known, they are a chain; if
-- it is known, the log agrees with it.
pub record AreAll (log : LogState) (content : Option (List ℕ)) (stored : List Stored) : Type 0 where
  pub are_stored : AreStored stored
  pub held : HoldsBlocks log stored
  pub started : (image : List ℕ) → content ≡ Some image → IsStarted log stored image

-- What opening a log returns: a reader that has read no block, a log without a head, or that the
-- bytes are something other than a log.
abbrev pub IsOpened : Option (List ℕ) → Result Opened LogError → Type 0
IsOpened content (Ok (openeds.Records reader)) = AreRead reader content []
IsOpened content (Ok (openeds.Blank log)) = AreAll log content []
IsOpened content (Err errors.NotALog) = (image : List ℕ) → content ≡ Some image → standing next_in_log image ≡ NotALog
IsOpened content (Err (errors.Damaged at)) = ⊥
IsOpened content (Err errors.DiskFault) = Unit {0}
IsOpened content (Err errors.Memory) = Unit {0}

-- What comes after these blocks: one more block, the mark, the end, or damage.
abbrev pub IsTurn : Option (List ℕ) → List Stored → Result Turn LogError → Type 0
IsTurn content stored (Ok (turns.Block next reader)) = AreRead reader content (stored ++ next ∷ [])
IsTurn content stored (Ok (turns.Mark reader)) = AreRead reader content stored
IsTurn content stored (Ok (turns.End log)) = AreAll log content stored
IsTurn content stored (Err errors.NotALog) = ⊥
IsTurn content stored (Err (errors.Damaged at)) = (image : List ℕ) → content ≡ Some image → standing next_in_log image ≡ Damaged stored at
IsTurn content stored (Err errors.DiskFault) = Unit {0}
IsTurn content stored (Err errors.Memory) = Unit {0}

-- A block is returned with its own digest, is one more block of the log, and has the version that
-- the log wants.
pub record IsOneMore (old new : ReaderState) (next : Stored) : Type 0 where
  pub lawful : IsBlock next.block
  pub digest_is : next.digest ≡ digest_of next.block
  pub place_is : next.place ≡ old.gate
  pub count_is : new.count ≡ old.count + 1
  pub few : new.count ≤ MAX_MARKED_BLOCKS
  pub marked_is : new.is_marked ≡ old.is_marked
  pub version_is : next.block.version ≡ wanted_version old.is_marked

-- A mark was read, and none before it. It adds no block.
pub record IsMarkRead (old new : ReaderState) : Type 0 where
  pub unmarked : old.is_marked ≡ false
  pub marked_is : new.is_marked ≡ true
  pub count_is : new.count ≡ old.count
  pub last_is : new.last ≡ old.last

-- If a block was returned, the reader after it has read one block more; if the mark was, one mark.
abbrev pub IfBlock : ReaderState → Turn → Type 0
IfBlock old (turns.Block next reader) = IsOneMore old reader next
IfBlock old (turns.Mark reader) = IsMarkRead old reader
IfBlock old (turns.End log) = Unit {0}

-- ---- one record

-- The error that the log reports for a failed call.
abbrev pub log_error : HostError → LogError
log_error faults.Fault = errors.DiskFault
log_error faults.Memory = errors.Memory

-- A block that is stored after the gate at this offset.
abbrev pub stored_at : ℕ → Block → Stored
stored_at gate block = record { place = gate; digest = digest_of block; block = block }

-- The block that bytes spell, if it is the next one after `count` blocks, the last of which has the
-- digest `last`, in a log that is marked or isn't.
abbrev pub next_of : ℕ → Digest → Bool → List ℕ → Option Block
next_of count last marked bytes = next_block block_in (λ marked blocks block. new_placement marked count 0 last block) marked [] bytes

-- If the content is known, this record is at the gate at this offset, and these are the bytes of its
-- block.
abbrev pub IsRecordAt : ℕ → Record → List ℕ → Option (List ℕ) → Type 0
IsRecordAt gate found body content = (image : List ℕ) → content ≡ Some image
    → (found ≡ record_of (drop gate image)) × (body ≡ take (record_size found) (drop 5 (drop gate image)))

-- What a record of length 0 at the gate at this offset is: the mark, if none stands before it.
abbrev pub found_mark : ℕ → Bool → Found
found_mark gate true = founds.Broken
found_mark gate false = founds.Mark (gate + 5)

-- What is found at the gate of this log, after these blocks.
abbrev pub IsFound : Option (List ℕ) → LogState → List Stored → Found → Type 0
IsFound content log stored founds.Closed = (image : List ℕ) → content ≡ Some image → standing next_in_log image ≡ Holds stored log.is_marked log.gate
IsFound content log stored founds.Broken = (image : List ℕ) → content ≡ Some image → standing next_in_log image ≡ Damaged stored log.gate
IsFound content log stored (founds.Mark after) = AreReadTo (log_at after log.count log.last true) content stored
IsFound content log stored (founds.Next next after) = AreReadTo (log_at after (log.count + 1) next.digest log.is_marked) content (stored ++ next ∷ [])

-- A block that is found comes with its own digest, the gate after it is at most a record further on,
-- the log had room for it, and it has the version that the log wants.
pub record IsNear (gate count : ℕ) (marked : Bool) (next : Stored) (after : ℕ) : Type 0 where
  pub lawful : IsBlock next.block
  pub digest_is : next.digest ≡ digest_of next.block
  pub place_is : next.place ≡ gate
  pub later : gate ≤ after
  pub near : after ≤ gate + MAX_RECORD_BYTES
  pub few : count < MAX_MARKED_BLOCKS
  pub unmarked : marked ≡ false → IsSmall after (count + 1)
  pub version_is : next.block.version ≡ wanted_version marked

-- A mark is found where none stands before it, and the gate after it is within the log's bounds.
pub record IsMarkNear (gate count : ℕ) (marked : Bool) (after : ℕ) : Type 0 where
  pub unmarked : marked ≡ false
  pub later : gate ≤ after
  pub near : after ≤ FIRST_GATE + 5 + count * MAX_RECORD_BYTES

-- If a record was found, it is near.
abbrev pub IfNear : ℕ → ℕ → Bool → Found → Type 0
IfNear gate count marked founds.Closed = Unit {0}
IfNear gate count marked founds.Broken = Unit {0}
IfNear gate count marked (founds.Mark after) = IsMarkNear gate count marked after
IfNear gate count marked (founds.Next next after) = IsNear gate count marked next after
