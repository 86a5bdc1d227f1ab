-- Laws about what printed lines promise, over one run and over several.
use Rattle.std.specs.Prelude.{◌≡◌, ℕ, ◌≤◌, Bool, true, nat_le, if◌then◌else◌, List, [], ◌∷◌, ◌++◌, map, Option, Some}
use Rattle.std.specs.List.{concat}
use Rattle.lc_io.specs.Disk.{DiskState}
use Rattle.lc_io.specs.Outside.{Tell, IsPrefix, bytes_told}
use Rattle.disk_model.specs.Disk.{IsImage, Keeps}
use Rattle.block_codec.specs.declared.block.Block.{Block}
use Rattle.block_log.specs.Standing.{Logged, NextBlock, chain_of}
use Rattle.cli_promises.specs.Promises.{Promise, Line, Change, IsPromiseKept, AreBegun, Telling}
use Rattle.cli_promises.specs.Promises.{MayLeave}

-- The bytes that were printed of lines are a prefix of the lines' bytes.
abbrev pub BegunIsPrefix : Type 0
BegunIsPrefix = (tells : List Tell) (lines : List Line) → AreBegun tells lines → IsPrefix (bytes_told tells) (concat (map (λ line. line.text) lines))

-- ---- runs, one after another

-- What a stopped run left: what it had promised by then, and the bytes of the disk.
pub record Left : Type 0 where
  pub acknowledged : List Promise
  pub image : List ℕ

-- The image keeps all these promises.
abbrev pub AllAreKept : NextBlock → List Promise → List ℕ → Type 0
AllAreKept next [] image = Unit {0}
AllAreKept next (promise ∷ promises) image = IsPromiseKept next promise image × AllAreKept next promises image

-- A chain has the blocks of another, followed by any; and if that one is marked, so is it.
pub record IsLonger (before now : Logged) : Type 0 where
  pub more : List Block
  pub blocks_are : now.blocks ≡ before.blocks ++ more
  pub stays_marked : before.marked ≡ true → now.marked ≡ true

-- The image stands for the chain of `before`, followed by any blocks; a mark stays.
abbrev pub GoesOn : NextBlock → List ℕ → List ℕ → Type 0
GoesOn next before image =
    (logged : Logged) → chain_of next before ≡ Some logged → (now : Logged) × IsLonger logged now × (chain_of next image ≡ Some now)

-- Runs, the first on this image, and each other one on the image that the run before it left. A run
-- leaves the same chain or a longer one, and keeps what it promised.
abbrev pub AreRuns : NextBlock → List ℕ → List Left → Type 0
AreRuns next image [] = Unit {0}
AreRuns next image (left ∷ others) =
    GoesOn next image left.image × AllAreKept next left.acknowledged left.image × AreRuns next left.image others

-- The image that the last of the runs left.
abbrev pub last_image : List ℕ → List Left → List ℕ
last_image image [] = image
last_image image (left ∷ others) = last_image left.image others

-- All that any of the runs promised.
abbrev pub all_acknowledged : List Left → List Promise
all_acknowledged [] = []
all_acknowledged (left ∷ others) = left.acknowledged ++ all_acknowledged others

-- The last chain begins with the first one, is marked if that is, and keeps all that any of the
-- runs acknowledged.
abbrev pub RunsHold : Type 0
RunsHold = (next : NextBlock) (first : List ℕ) (logged : Logged) (runs : List Left) → chain_of next first ≡ Some logged → AreRuns next first runs
    → (last : Logged) × IsLonger logged last × (chain_of next (last_image first runs) ≡ Some last) × AllAreKept next (all_acknowledged runs) (last_image first runs)

-- ---- one run, and a stop

-- The promises of the lines whose printing had begun by a moment.
abbrev pub acknowledged_by : ℕ → List Tell → List Line → List Promise
acknowledged_by t [] lines = []
acknowledged_by t (tell ∷ tells) [] = []
acknowledged_by t (tell ∷ tells) (line ∷ lines) =
    if nat_le tell.at t then line.promise ∷ acknowledged_by t tells lines else acknowledged_by t tells lines

-- A run that printed some of these lines, and made this change or a part of it, may be stopped at
-- any moment: the image that it leaves extends the first content's chain, and keeps what was
-- acknowledged by then.
abbrev pub StopLeaves : {D : Type 0} → NextBlock → (D → ℕ) → (D → ℕ → Option DiskState) → (D → Option (List Tell)) → D → D → Type 0
StopLeaves next now disk told old new =
    (content : List ℕ) (change : Change) (lines : List Line) (all : Bool) (telling : Telling next now disk told old new lines all)
    → Keeps now disk old new (MayLeave next content change)
    → (t : ℕ) (state : DiskState) (image : List ℕ) → now old ≤ t → t ≤ now new → disk new t ≡ Some state → IsImage state image
    → GoesOn next content image × AllAreKept next (acknowledged_by t telling.tells lines) image
