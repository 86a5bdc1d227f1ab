-- Restoring a chain from a log: its blocks run as they are read.
use Rattle.std.specs.Prelude.{◌≡◌, ℕ, Bool, false, List, [], ◌∷◌, ◌++◌, map, Option, Some}
use Rattle.std.specs.Prelude.{Result, Ok, Err}
use Rattle.lc_base.specs.Faults.{HasCause}
use Rattle.lc_base.specs.declared.digest.Digest.{Digest}
use Rattle.lc_io.specs.Disk.{DiskState, Stays}
use Rattle.disk_model.specs.Leaving.{LeavesWire}
use Rattle.lc_io.specs.Scratch.{ScratchState, Serves}
use Rattle.block_codec.specs.declared.block.Block.{Block}
use Rattle.block_codec.specs.declared.placement.Placement.TheVariants.{Next}
use Rattle.block_log.specs.Standing.{NotALog, Damaged, blocks_in, standing}
use Rattle.block_log.specs.Log.{LogState}
use Rattle.block_log.specs.Reader.{AreAll}
use Rattle.block_log.specs.declared.layout.Stored.{Stored}
use Rattle.block_log.specs.declared.error.LogError.{LogError}
use Rattle.block_log.specs.declared.error.LogError.TheVariants as errors
use Rattle.rooted_chain.specs.chain_replay.Chain.{ChainState, StandsFor}
use Rattle.recovery.specs.Node.{chain_in, logged_in, next_in_chain, stored_placement}
use Rattle.recovery.specs.declared.errors.StartError.{StartError}
use Rattle.recovery.specs.declared.errors.StartError.TheVariants as starts

-- The error of a log, as an error of starting.
abbrev pub start_error : LogError → StartError
start_error errors.NotALog = starts.NotALog
start_error (errors.Damaged at) = starts.Damaged at
start_error errors.DiskFault = starts.DiskFault
start_error errors.Memory = starts.Memory

-- What reading a log does to its machine: the disk stays as it is, at each moment, and nothing is
-- printed; and the disk is blamed exactly if one of its calls failed.
pub record ReadsLog {D T : Type 0} (now : D → ℕ) (disk : D → ℕ → Option DiskState)
    (disk_faults : D → ℕ) (told : D → T) (wire_faults : D → ℕ) (old new : D) (Blames : Type 0)
    : Type 0 where
  pub stays : Stays now disk old new
  pub wire : LeavesWire told wire_faults old new
  pub cause : HasCause (disk_faults old) (disk_faults new) Blames

-- What running blocks does to the scratch device that it is lent. If `calls` is false the device is
-- not called: it stays as it was, and is not blamed.
pub record RunsOn {S : Type 0} (calls : Bool) (state : S → ScratchState) (faults : S → ℕ)
    (old new : S) (Blames : Type 0) : Type 0 where
  pub serves : Serves state faults old new Blames
  pub unused : calls ≡ false → (new ≡ old) × (Blames → ⊥)

-- The block is the next one after these, in a log that is marked or isn't, and the chain is that
-- with it; or it isn't, and this is the offset of its gate. `kept` is what is kept of a chain.
abbrev pub IsRun : {C : Type 0} → (C → ChainState) → Bool → List Block → Stored → Result C ℕ
    → Type 0
IsRun kept marked blocks next (Ok chain) = (stored_placement marked blocks next.block ≡ Next)
    × StandsFor (kept chain) (blocks ++ next.block ∷ [])
IsRun kept marked blocks next (Err at) = (stored_placement marked blocks next.block ≡ Next → ⊥)
    × (at ≡ next.place)

-- This holds of what was made, if anything was.
abbrev pub IfMade : {C E : Type 0} → (C → Type 0) → Result C E → Type 0
IfMade P (Ok made) = P made
IfMade P (Err other) = Unit {0}

-- The digests of stored blocks.
abbrev pub digests_of : List Stored → List Digest
digests_of stored = map (λ one. one.digest) stored

-- Whether or not the content is known, and whatever running the blocks returned: these blocks were
-- read, and are all; the chain has their digests.
pub record HasRead (chain : ChainState) (log : LogState) (content : Option (List ℕ)) : Type 0 where
  pub stored : List Stored
  pub all : AreAll log content stored
  pub digests_are : chain.digests ≡ digests_of stored

-- All blocks of a log have run: the chain and the log are of these blocks.
pub record HasRun (chain : ChainState) (log : LogState) (content : Option (List ℕ)) : Type 0 where
  pub stored : List Stored
  pub all : AreAll log content stored
  pub stands : StandsFor chain (blocks_in stored)
  -- If the content is known it stands for them, with rows counted, marked as the log is.
  pub counted : (image : List ℕ) → content ≡ Some image
      → chain_in image ≡ Some (logged_in log (blocks_in stored))

-- What restoring the chain of a log returns, by its content.
abbrev pub IsRestored : {C : Type 0} → (C → ChainState) → Option (List ℕ)
    → Result (C × LogState) StartError → Type 0
IsRestored kept content (Ok opened) = HasRun (kept opened.0) opened.1 content
IsRestored kept content (Err starts.NotALog) = (image : List ℕ) → content ≡ Some image
    → standing next_in_chain image ≡ NotALog
IsRestored kept content (Err (starts.Damaged at)) = (image : List ℕ) → content ≡ Some image
    → (before : List Stored) × (standing next_in_chain image ≡ Damaged before at)
IsRestored kept content (Err starts.DiskFault) = Unit {0}
IsRestored kept content (Err starts.ScratchFault) = Unit {0}
IsRestored kept content (Err starts.Memory) = Unit {0}
