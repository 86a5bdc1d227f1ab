-- What a log keeps, and how that agrees with the bytes on the disk.
use Rattle.std.specs.Prelude.{◌≡◌, ◌⊎◌, ℕ, ◌+◌, ◌*◌, ◌≤◌, ◌==◌, Bool, true, false, MatchBool, List}
use Rattle.std.specs.Prelude.{[], length, map, get_or, take, slice_get, Some, Ok}
use Rattle.lc_base.specs.declared.digest.Digest.{Digest}
use Rattle.block_codec.specs.Spelling.{IsBlock}
use Rattle.block_codec.specs.Reading.{block_in}
use Rattle.block_codec.specs.Placement.{bytes_digest, digest_of, no_parent, last_digest}
use Rattle.block_codec.specs.Placement.{new_placement, placement_after}
use Rattle.block_codec.specs.Placement.{placement_by_versions, FitsVersions}
use Rattle.block_codec.specs.declared.limits.TheConstants.{MAX_BLOCKS, MAX_MARKED_BLOCKS}
use Rattle.block_codec.specs.declared.block.Block.{Block}
use Rattle.block_codec.specs.declared.placement.Placement.TheVariants.{Next}
use Rattle.block_log.specs.Standing.{Blank, Holds, Logged, with_block, with_mark, Placer, NextBlock}
use Rattle.block_log.specs.Standing.{next_block, blocks_in, standing, chain_of}
use Rattle.block_log.specs.declared.layout.TheConstants.{FIRST_GATE, MAX_RECORD_BYTES}
use Rattle.block_log.specs.declared.layout.Stored.{Stored}

-- ---- which block a log takes

-- The place of a block after others, as the log itself judges it: it runs no block, so it counts no
-- row. A marked log takes blocks of the second version, another those of the first.
abbrev pub log_placement : Placer
log_placement marked = placement_after marked 0

-- The next block, as the log itself judges it.
abbrev pub next_in_log : NextBlock
next_in_log = next_block block_in log_placement

-- A block that is next by this placement is also next for the log, which counts no rows.
abbrev pub IsStricter : Placer → Type 0
IsStricter place = (marked : Bool) (blocks : List Block) (block : Block) → place marked blocks block ≡ Next → log_placement marked blocks block ≡ Next

-- ---- what a log keeps

-- The offset of the closed gate after the last block; the number of blocks and the digest of the
-- last one; whether there is a head to append to; if there is none, whether the first byte is 0, as
-- the first step of creation leaves it; and whether the log is marked.
pub record LogState : Type 0 where
  pub gate : ℕ
  pub count : ℕ
  pub last : Digest
  pub is_ready : Bool
  pub is_begun : Bool
  pub is_marked : Bool

-- The number of marks of a log that is marked or isn't.
abbrev pub marks : Bool → ℕ
marks true = 1
marks false = 0

-- The number of records of a log: those of its blocks, and the mark.
abbrev pub records_of : LogState → ℕ
records_of log = log.count + marks log.is_marked

-- Bounds of a log without a mark: of the number of its blocks, and of the offset of the gate after
-- the last one.
pub record IsSmall (gate count : ℕ) : Type 0 where
  pub few : count ≤ MAX_BLOCKS
  pub near : gate ≤ FIRST_GATE + count * MAX_RECORD_BYTES

-- Bounds of what a log keeps, by which each of its offsets fits a u64. A log without a head has no
-- block and no mark.
pub record IsKeptLog (log : LogState) : Type 0 where
  pub few : log.count ≤ MAX_MARKED_BLOCKS
  pub near : log.gate ≤ FIRST_GATE + 5 + log.count * MAX_RECORD_BYTES
  pub unmarked : log.is_marked ≡ false → IsSmall log.gate log.count
  pub no_block : log.is_ready ≡ false
      → (log.count ≡ 0) × (log.last ≡ no_parent) × (log.is_marked ≡ false)

-- A log with a head keeps the number of blocks, the digest of the last one, whether there is a mark,
-- and the closed gate of these bytes.
pub record AgreesWithBlocks (log : LogState) (image : List ℕ) : Type 0 where
  pub stored : List Stored
  pub stands : standing next_in_log image ≡ Holds stored log.is_marked log.gate
  pub count_is : log.count ≡ length stored
  pub last_is : log.last ≡ last_digest (map digest_of (blocks_in stored))

-- No log yet, and whether the first byte is 0.
pub record IsBlank (is_begun : Bool) (image : List ℕ) : Type 0 where
  pub stands : standing next_in_log image ≡ Blank
  pub begun_is : is_begun ≡ (get_or image 0 1 == 0)

-- A log without a head is over bytes that are no log yet.
abbrev pub AgreesWithBlank : LogState → List ℕ → Type 0
AgreesWithBlank log image = IsBlank log.is_begun image

-- A log agrees with the bytes on its disk.
abbrev pub Agrees : LogState → List ℕ → Type 0
Agrees log image = MatchBool log.is_ready (AgreesWithBlocks log image) (AgreesWithBlank log image)

-- ---- what reading a log yields

-- Blocks as they were stored: each is the next one after those before it, as their versions say it,
-- and has its own digest.
pub record AreStored (stored : List Stored) : Type 0 where
  pub chained : (i : ℕ) (s : Stored) → slice_get stored i ≡ Some s
      → placement_by_versions 0 (take i (blocks_in stored)) s.block ≡ Next
  pub digests_are : map (λ s. s.digest) stored ≡ map digest_of (blocks_in stored)
  pub lawful : (i : ℕ) (s : Stored) → slice_get stored i ≡ Some s → IsBlock s.block

-- A log holds the number of these blocks and the digest of the last one. If it is not marked, the
-- last one has the first version. A log without a head has no mark.
pub record HoldsBlocks (log : LogState) (stored : List Stored) : Type 0 where
  pub count_is : log.count ≡ length stored
  pub last_is : log.last ≡ last_digest (map digest_of (blocks_in stored))
  pub fits : FitsVersions log.is_marked (blocks_in stored)
  pub headless : log.is_ready ≡ false → log.is_marked ≡ false

-- A log agrees with these bytes, and these are all their blocks.
abbrev pub IsStarted : LogState → List Stored → List ℕ → Type 0
IsStarted log stored image = Agrees log image × MatchBool log.is_ready (standing next_in_log image ≡ Holds stored log.is_marked log.gate) (stored ≡ [])

-- ---- what its calls do

-- The log with a head and without blocks.
abbrev pub log_with_head : LogState → LogState
log_with_head log = record { gate = FIRST_GATE; count = log.count; last = log.last; is_ready = true; is_begun = false; is_marked = false }

-- The log with one more block, which has these bytes.
abbrev pub log_with_block : LogState → List ℕ → LogState
log_with_block log bytes = record { gate = log.gate + 5 + length bytes; count = log.count + 1; last = bytes_digest bytes; is_ready = true; is_begun = log.is_begun; is_marked = log.is_marked }

-- The log, marked: the mark is after its blocks.
abbrev pub log_with_mark : LogState → LogState
log_with_mark log = record { gate = log.gate + 5; count = log.count; last = log.last; is_ready = true; is_begun = log.is_begun; is_marked = true }

-- These bytes are the next block of the log.
pub record IsNextOf (log : LogState) (bytes : List ℕ) : Type 0 where
  pub block : Block
  pub decoded : block_in bytes ≡ Ok block
  pub placed : new_placement log.is_marked log.count 0 log.last block ≡ Next

-- By a placement that is stricter than the log's own, the content stands for this chain.
pub record StandsBy (place : Placer) (content : List ℕ) (logged : Logged) : Type 0 where
  pub stricter : IsStricter place
  pub stands : chain_of (next_block block_in place) content ≡ Some logged

-- These bytes are the next block of the content's chain, by a placement that is stricter than the
-- log's own.
pub record IsNextAfter (place : Placer) (content bytes : List ℕ) (logged : Logged) (block : Block) : Type 0 where
  pub stricter : IsStricter place
  pub stands : chain_of (next_block block_in place) content ≡ Some logged
  pub decoded : block_in bytes ≡ Ok block
  pub placed : place logged.marked logged.blocks block ≡ Next

-- Bytes that stand for this chain, or for it with one more block.
abbrev pub IsOldOrNew : NextBlock → Logged → Block → List ℕ → Type 0
IsOldOrNew next logged block image = (chain_of next image ≡ Some logged) ⊎ (chain_of next image ≡ Some (with_block logged block))

-- Bytes that stand for this chain, or for it marked.
abbrev pub IsOldOrMarked : NextBlock → Logged → List ℕ → Type 0
IsOldOrMarked next logged image = (chain_of next image ≡ Some logged) ⊎ (chain_of next image ≡ Some (with_mark logged))
