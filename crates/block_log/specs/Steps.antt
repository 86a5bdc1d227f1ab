-- The steps of making a log, of appending to it and of marking it, each a write and a sync.
use Rattle.std.specs.Prelude.{◌≡◌, ℕ, List, [], ◌∷◌, ◌++◌, length, Option, Some, Result, OnOk}
use Rattle.std.specs.Option.{option_map, is_some}
use Rattle.std.specs.Int.{w32, to_be_bytes}
use Rattle.lc_io.specs.Disk.{DiskState}
use Rattle.disk_model.specs.Disk.{Keeps, Rests, content_of, settled_disk, bytes_over}
use Rattle.block_log.specs.declared.layout.TheConstants.{CLOSED_GATE}
use Rattle.block_log.specs.Standing.{NextBlock, magic, nothing_logged, chain_of}

-- The disk with these bytes written and nothing pending.
abbrev pub synced_write : ℕ → List ℕ → Option DiskState → Option DiskState
synced_write at bytes state = option_map (λ s. settled_disk (bytes_over at bytes s.content)) state

-- A record: the length of its bytes, the bytes, and the closed gate of the next record. That of no
-- bytes is the mark.
unfoldable pub record_bytes : List ℕ → List ℕ
record_bytes bytes = to_be_bytes w32 (length bytes) ++ bytes ++ CLOSED_GATE ∷ []

-- The head gate is closed, as the first step of creation leaves it.
pub record HasClosedHead (image : List ℕ) : Type 0 where
  pub rest : List ℕ
  pub is : image ≡ CLOSED_GATE ∷ rest

-- A closed head gate, the magic, and the closed gate of the first record.
pub record IsPrepared (image : List ℕ) : Type 0 where
  pub rest : List ℕ
  pub is : image ≡ CLOSED_GATE ∷ (magic ++ CLOSED_GATE ∷ rest)

-- The bytes stand for no block, whichever block comes next.
abbrev pub HasNoBlock : List ℕ → Type 0
HasNoBlock image = (next : NextBlock) → chain_of next image ≡ Some nothing_logged

-- A step of making the head of a log. After `Ok` the head is as wanted, with nothing pending, and
-- the disk is known exactly if it was known at entry. A crash at any moment of the step leaves no
-- block.
pub record MakesHead {D T E : Type 0} (now : D → ℕ) (disk : D → ℕ → Option DiskState)
    (IsHead : List ℕ → Type 0) (old new : D) (result : Result T E) : Type 0 where
  pub head : OnOk result (Rests (disk new (now new)) IsHead)
  pub images : (content : List ℕ) → content_of (disk old (now old)) ≡ Some content
      → Keeps now disk old new HasNoBlock
  pub still_known : OnOk result (is_some (disk new (now new)) ≡ is_some (disk old (now old)))
