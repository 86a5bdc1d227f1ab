-- What the bytes of a log stand for: the chain of its blocks and whether it is marked, or why they
-- stand for none.
use Rattle.std.specs.Prelude.{ℕ, zero, suc, ◌+◌, Bool, true, false, not, ◌&&◌, ◌||◌, ◌==◌, nat_le}
use Rattle.std.specs.Prelude.{nat_lt, if◌then◌else◌, List, [], ◌∷◌, ◌++◌, length, map, take, drop}
use Rattle.std.specs.Prelude.{get_or, Option, Some, None, Result, Ok, Err}
use Rattle.std.specs.Cmp.Lexicographic.{pointwise}
use Rattle.std.specs.Int.{w32, from_be_bytes}
use Rattle.block_codec.specs.Spelling.{Decoder}
use Rattle.block_codec.specs.Placement.{digest_of}
use Rattle.block_codec.specs.declared.limits.TheConstants.{MAX_BLOCK_BYTES}
use Rattle.block_codec.specs.declared.block.Block.{Block}
use Rattle.block_codec.specs.declared.placement.Placement.{Placement}
use Rattle.block_codec.specs.declared.placement.Placement.TheVariants.{Known, Next, Not}
use Rattle.block_log.specs.declared.layout.TheConstants.{OPEN_GATE, FIRST_GATE, MAX_RECORDS}
use Rattle.block_log.specs.declared.layout.Stored.{Stored}

-- What some bytes are: no log yet; something other than a log; a log that is damaged after these
-- blocks, at the gate at this offset; or a log of these blocks, which is marked or isn't, with the
-- offset of the closed gate after the last record.
pub data Standing : Type 0 where
  Blank : Standing
  NotALog : Standing
  Damaged : List Stored → ℕ → Standing
  Holds : List Stored → Bool → ℕ → Standing

-- ---- which block comes next

-- The place of a block after others, in a chain that is marked or isn't.
abbrev pub Placer : Type 0
Placer = Bool → List Block → Block → Placement

-- The block, if it is the next one.
abbrev pub if_next : Block → Placement → Option Block
if_next block Next = Some block
if_next block Known = None
if_next block (Not why) = None

-- The decoded block, if it is the next one after others.
abbrev pub next_decoded : Placer → Bool → List Block → Result Block ℕ → Option Block
next_decoded place marked blocks (Ok block) = if_next block (place marked blocks block)
next_decoded place marked blocks (Err offset) = None

-- The block that bytes spell, if it is the next one after others, in a chain that is marked or
-- isn't.
abbrev pub NextBlock : Type 0
NextBlock = Bool → List Block → List ℕ → Option Block

-- The next block, by what bytes spell and by the place of a block after others.
abbrev pub next_block : Decoder → Placer → NextBlock
next_block read place marked blocks bytes = next_decoded place marked blocks (read bytes)

-- ---- records

-- The blocks that are stored.
abbrev pub blocks_in : List Stored → List Block
blocks_in stored = map (λ s. s.block) stored

-- A record counts if its bytes are the next block; `more` continues after it.
abbrev pub after_record : (ℕ → List Stored → List ℕ → Standing) → ℕ → ℕ → List Stored → List ℕ
    → Option Block → Standing
after_record more gate size stored rest None = Damaged stored gate
after_record more gate size stored rest (Some block) =
    more (gate + 5 + size) (stored ++ record { place = gate; digest = digest_of block; block = block } ∷ []) rest

-- Whether a record of this length is the mark: the length is 0, no mark stands before it, and at
-- least one byte follows the length.
abbrev pub is_mark : Bool → ℕ → List ℕ → Bool
is_mark marked size bytes = not marked && size == 0 && nat_lt 0 (length bytes)

-- Whether a record of this length may be that of a block: the length is from 1 to MAX_BLOCK_BYTES,
-- and after it there are that many bytes and at least one more.
abbrev pub is_sized : ℕ → List ℕ → Bool
is_sized size bytes = nat_le 1 size && nat_le size MAX_BLOCK_BYTES && nat_lt size (length bytes)

-- What follows the length of a record whose gate, at this offset, is open: it is the mark, or its
-- bytes are the next block.
abbrev pub record_at : NextBlock → (Bool → ℕ → List Stored → List ℕ → Standing) → Bool → ℕ → ℕ
    → List Stored → List ℕ → Standing
record_at next more marked gate size stored bytes =
    if is_mark marked size bytes then more true (gate + 5) stored bytes
    else (if is_sized size bytes
    then after_record (more marked) gate size stored (drop size bytes) (next marked (blocks_in stored) (take size bytes))
    else Damaged stored gate)

-- The records from the gate at this offset on, after others, where the mark stands before it or
-- doesn't. They end at a closed gate. After an open one there is the length of a record, in four
-- bytes, the most significant first. `count` is the number of gates to look at: a log has at most
-- MAX_RECORDS records, so one more look reaches the closed gate.
unfoldable pub records_at : NextBlock → ℕ → Bool → ℕ → List Stored → List ℕ → Standing
records_at next zero marked gate stored bytes = Damaged stored gate
records_at next (suc count) marked gate stored [] = Damaged stored gate
records_at next (suc count) marked gate stored (byte ∷ bytes) =
    if byte == OPEN_GATE then record_at next (records_at next count) marked gate (from_be_bytes w32 (take 4 bytes)) stored (drop 4 bytes)
    else Holds stored marked gate

-- ---- the head

-- The seven bytes after the head gate: `LCLOG1` and a line feed.
abbrev pub magic : List ℕ
magic = 76 ∷ 67 ∷ 76 ∷ 79 ∷ 71 ∷ 49 ∷ 10 ∷ []

-- Whether bytes are a log: an open head gate, the magic, then the gate of the first record.
abbrev pub is_log : List ℕ → Bool
is_log image = nat_lt FIRST_GATE (length image) && pointwise ◌==◌ (take FIRST_GATE image) (OPEN_GATE ∷ magic)

-- Whether bytes are no log yet: there is at most one; or the first is 0; or the magic is between
-- two closed gates.
abbrev pub is_blank : List ℕ → Bool
is_blank image =
    nat_le (length image) 1 || (get_or image 0 1 == 0)
    || (nat_lt FIRST_GATE (length image) && pointwise ◌==◌ (take 7 (drop 1 image)) magic
    && not (get_or image 0 OPEN_GATE == OPEN_GATE) && not (get_or image FIRST_GATE OPEN_GATE == OPEN_GATE))

-- What some bytes are.
unfoldable pub standing : NextBlock → List ℕ → Standing
standing next image =
    if is_log image then records_at next (MAX_RECORDS + 1) false FIRST_GATE [] (drop FIRST_GATE image)
    else (if is_blank image then Blank else NotALog)

-- What a log holds: blocks, and whether it is marked.
pub record Logged : Type 0 where
  pub blocks : List Block
  pub marked : Bool

-- No block, and no mark.
abbrev pub nothing_logged : Logged
nothing_logged = record { blocks = []; marked = false }

-- The same with one more block.
abbrev pub with_block : Logged → Block → Logged
with_block logged block = record { blocks = logged.blocks ++ block ∷ []; marked = logged.marked }

-- The same with more blocks.
abbrev pub with_blocks : Logged → List Block → Logged
with_blocks logged more = record { blocks = logged.blocks ++ more; marked = logged.marked }

-- The same blocks, marked.
abbrev pub with_mark : Logged → Logged
with_mark logged = record { blocks = logged.blocks; marked = true }

-- The blocks of a log, and whether it is marked. What is no log yet has no block and no mark.
abbrev pub logged_of : Standing → Option Logged
logged_of Blank = Some nothing_logged
logged_of NotALog = None
logged_of (Damaged stored gate) = None
logged_of (Holds stored marked gate) = Some (record { blocks = blocks_in stored; marked = marked })

-- The chain of blocks that some bytes stand for, marked or not, or `None` if they stand for none.
abbrev pub chain_of : NextBlock → List ℕ → Option Logged
chain_of next image = logged_of (standing next image)
