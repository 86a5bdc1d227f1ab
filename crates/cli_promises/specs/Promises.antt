-- What the lines that a command prints promise about the log, and what a crash may leave of it.
use Rattle.std.specs.Prelude.{◌≡◌, ℕ, Bool, true, List, [], ◌∷◌, take, map, Option, Some, slice_get}
use Rattle.lc_io.specs.Disk.{DiskState}
use Rattle.lc_io.specs.Outside.{Tell, with_tells, IsPrefix}
use Rattle.disk_model.specs.Disk.{IsImage, LeftSince}
use Rattle.block_codec.specs.declared.block.Block.{Block}
use Rattle.block_log.specs.Standing.{Logged, with_blocks, with_mark, NextBlock, chain_of}
use Rattle.block_log.specs.Log.{IsOldOrMarked}

-- ---- lines, and what they promise

-- What a line promises about the log from the moment on at which its printing begins: nothing, that
-- the chain has this block with this number, or that the log is marked.
pub data Promise : Type 0 where
  NoPromise : Promise
  Holds : ℕ → Block → Promise
  IsMarked : Promise

-- A line, including its end, and what it promises.
pub record Line : Type 0 where
  pub text : List ℕ
  pub promise : Promise

-- A line that promises nothing.
abbrev pub plain : List ℕ → Line
plain text = record { text = text; promise = NoPromise }

-- The image keeps the promise: it stands for a chain that has the block with that number, or for
-- one that is marked. `next` says which bytes are the next block of a chain.
abbrev pub IsPromiseKept : NextBlock → Promise → List ℕ → Type 0
IsPromiseKept next NoPromise image = Unit {0}
IsPromiseKept next (Holds number block) image = (logged : Logged) × (chain_of next image ≡ Some logged) × (slice_get logged.blocks number ≡ Some block)
IsPromiseKept next IsMarked image = (logged : Logged) × (chain_of next image ≡ Some logged) × (logged.marked ≡ true)

-- The image keeps what all these lines promise.
abbrev pub KeepsLines : NextBlock → List Line → List ℕ → Type 0
KeepsLines next [] image = Unit {0}
KeepsLines next (line ∷ lines) image = IsPromiseKept next line.promise image × KeepsLines next lines image

-- Whatever a crash may leave now keeps the promise.
abbrev pub IsKeptAt : {D : Type 0} → NextBlock → (D → ℕ) → (D → ℕ → Option DiskState) → D → Promise → Type 0
IsKeptAt next now disk machine promise = (state : DiskState) (image : List ℕ) → disk machine (now machine) ≡ Some state → IsImage state image → IsPromiseKept next promise image

-- ---- what is printed

-- These pieces were printed for the first of the lines, in order, each by its own call. A piece is
-- a whole line, but the last piece may be some first bytes of its line.
pub data AreBegun : List Tell → List Line → Type 0 where
  NoMore : (lines : List Line) → AreBegun [] lines
  Part : (tell : Tell) (line : Line) (lines : List Line) → IsPrefix tell.bytes line.text → AreBegun (tell ∷ []) (line ∷ lines)
  Full : (tell : Tell) (tells : List Tell) (line : Line) (lines : List Line) → tell.bytes ≡ line.text → AreBegun tells lines → AreBegun (tell ∷ tells) (line ∷ lines)

-- These pieces are these lines, one for one.
abbrev pub AreLines : List Tell → List Line → Type 0
AreLines tells lines = map (λ tell. tell.bytes) tells ≡ map (λ line. line.text) lines

-- Whatever a crash may leave, from the moment on at which a line's printing began, keeps what the
-- line promises.
abbrev pub AreKept : {D : Type 0} → NextBlock → (D → ℕ) → (D → ℕ → Option DiskState) → D → List Tell → List Line → Type 0
AreKept next now disk machine [] lines = Unit {0}
AreKept next now disk machine (tell ∷ tells) [] = Unit {0}
AreKept next now disk machine (tell ∷ tells) (line ∷ lines) =
    ((image : List ℕ) → LeftSince now disk machine tell.at image → IsPromiseKept next line.promise image) × AreKept next now disk machine tells lines

-- Between two states just these lines were printed, all of them if `all` is true, else a prefix of
-- their bytes. Each line that was begun keeps its promise from then on.
pub record Telling {D : Type 0} (next : NextBlock) (now : D → ℕ) (disk : D → ℕ → Option DiskState) (told : D → Option (List Tell)) (old new : D) (lines : List Line) (all : Bool) : Type 0 where
  pub tells : List Tell
  pub added : told new ≡ with_tells (told old) tells
  pub begun : AreBegun tells lines
  pub whole : all ≡ true → AreLines tells lines
  pub kept : AreKept next now disk new tells lines

-- ---- what a crash may leave

-- What a command does to the log: it leaves the disk as it is, it appends these blocks, one after
-- another, or it marks the log.
pub data Change : Type 0 where
  NoChange : Change
  Appends : List Block → Change
  Marks : Change

-- The image stands for this chain, followed by some first ones of the blocks.
abbrev pub IsPartly : NextBlock → Logged → List Block → List ℕ → Type 0
IsPartly next logged added image = (count : ℕ) × (chain_of next image ≡ Some (with_blocks logged (take count added)))

-- What a crash may leave of a disk that had this content at first: the content itself; if blocks
-- are appended, its chain followed by some first ones of them; if the log is marked, its chain,
-- marked or as it was.
abbrev pub MayLeave : NextBlock → List ℕ → Change → List ℕ → Type 0
MayLeave next content NoChange image = image ≡ content
MayLeave next content (Appends added) image = (logged : Logged) × (chain_of next content ≡ Some logged) × IsPartly next logged added image
MayLeave next content Marks image = (logged : Logged) × (chain_of next content ≡ Some logged) × IsOldOrMarked next logged image

-- What a command leaves that ran to its end: the content as it was, its chain followed by all
-- appended blocks, or its chain marked.
abbrev pub IsChanged : NextBlock → List ℕ → Change → List ℕ → Type 0
IsChanged next content NoChange image = image ≡ content
IsChanged next content (Appends added) image = (logged : Logged) × (chain_of next content ≡ Some logged) × (chain_of next image ≡ Some (with_blocks logged added))
IsChanged next content Marks image = (logged : Logged) × (chain_of next content ≡ Some logged) × (chain_of next image ≡ Some (with_mark logged))
