-- What the program's fold over an input returns, by the definition of the fold.
use Rattle.std.specs.Prelude.{◌≡◌, ◌≤◌, ◌==◌, ℕ, List, ◌++◌, length, Option, Some, Result, Ok, Err}
use Rattle.block_codec.specs.Reading.{block_in}
use Rattle.block_codec.specs.declared.block.Block.{Block}
use Rattle.block_codec.specs.declared.error.FrameError.{FrameError}
use Rattle.block_codec.specs.declared.error.FrameError.TheVariants as frames
use Rattle.chain_replay.specs.chain_exec.Compiled.{compiled_in}
use Rattle.block_codec.specs.Placement.{last_version, most_blocks}
use Rattle.block_codec.specs.declared.block.TheConstants.{SECOND_VERSION}
use Rattle.chain_replay.specs.Chain.{ChainState, StandsFor, placement_in}
use Rattle.chain_replay.specs.Judging.{Taken, judgement_of, added_by, added_by_all}
use Rattle.chain_replay.specs.declared.refusal.Refusal.{Refusal}
use Rattle.chain_input.specs.Folding.{Fold, Whole, Refused}
use Rattle.chain_input.specs.declared.cause.Cause.{Cause}
use Rattle.chain_input.specs.declared.cause.Cause.TheVariants as causes
use Rattle.chain_input.specs.declared.folding.Folded.{Folded}
use Rattle.chain_input.specs.declared.folding.Folded.TheVariants as found
use Rattle.chain_input.specs.declared.taking.Turn.{Turn}
use Rattle.chain_input.specs.declared.taking.Turn.TheVariants as turns

-- The fold that was run is this one: a whole fold returns a chain that stands for the blocks that
-- it adds, and what follows is left in the input.
abbrev pub IsFoldResult : Folded → Option (List ℕ) → Fold → Type 0
IsFoldResult (found.Whole chain) left fold = (fold.end ≡ Whole) × StandsFor chain (added_by_all fold.taken) × (left ≡ Some fold.left)
IsFoldResult (found.Refused frame cause) left fold = (fold.end ≡ Refused frame cause) × (left ≡ Some fold.left)

-- The chain stands for these blocks, and the last of them has the version `last`.
pub record StandsWithLast (chain : ChainState) (last : ℕ) (blocks : List Block) : Type 0 where
  pub kept : StandsFor chain blocks
  pub last_is : last ≡ last_version blocks

-- A frame was taken into a chain of blocks as judged: the chain stands for these blocks and those
-- that the frame adds, the last of which has the version `last`; or the frame is refused.
abbrev pub IsTakenIn : List Block → ℕ → Turn ChainState → Result Taken Refusal → Type 0
IsTakenIn blocks last (turns.Taken kept) judgement = (frame : Taken) × (judgement ≡ Ok frame) × StandsWithLast kept last (blocks ++ added_by frame)
IsTakenIn blocks last (turns.Refused refusal) judgement = judgement ≡ Err refusal

-- A frame's turn in a fold, whatever blocks the chain stands for: before it the last of them has the
-- version `last`, and after it `new_last`.
abbrev pub IsTurnIn : ℕ → ChainState → List ℕ → ℕ → Turn ChainState → Type 0
IsTurnIn last chain frame new_last turn = (blocks : List Block) → StandsWithLast chain last blocks → IsTakenIn blocks new_last turn (judgement_of (placement_in compiled_in) blocks (block_in frame))

-- A chain that no log keeps has at most as many blocks as one may have whose last block has the
-- version `last`.
abbrev pub IsWithin : ℕ → ChainState → Type 0
IsWithin last chain = length chain.digests ≤ most_blocks (last == SECOND_VERSION)

-- The chain after a frame that was taken is so.
abbrev pub IfTaken : (ChainState → Type 0) → Turn ChainState → Type 0
IfTaken P (turns.Taken chain) = P chain
IfTaken P (turns.Refused refusal) = Unit {0}

-- A frame's turn in a fold: before it the last block has the version `last`, and after it
-- `new_last`.
pub record IsFolderTurn (last : ℕ) (chain : ChainState) (frame : List ℕ) (new_last : ℕ)
    (turn : Turn ChainState) : Type 0 where
  pub judged : IsTurnIn last chain frame new_last turn
  pub within : IfTaken (IsWithin new_last) turn

-- What an error of the frames says: a cause in the input, or that reading failed or memory ran out,
-- each by the error that was passed for it.
abbrev pub IsCauseOf : {E : Type 0} → E → E → FrameError → Result Cause E → Type 0
IsCauseOf fault memory frames.Truncated result = result ≡ Ok causes.Truncated
IsCauseOf fault memory (frames.Length count) result = result ≡ Ok (causes.Length count)
IsCauseOf fault memory frames.Many result = result ≡ Ok causes.Many
IsCauseOf fault memory frames.Fault result = result ≡ Err fault
IsCauseOf fault memory frames.Memory result = result ≡ Err memory
