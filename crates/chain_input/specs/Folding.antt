-- Folding an input into a chain: its frames are judged and taken in order, until one is refused.
use Rattle.std.specs.Prelude.{ℕ, zero, suc, ◌+◌, ◌-◌, List, [], ◌∷◌, ◌++◌, drop, Result, Ok, Err}
use Rattle.block_codec.specs.Frames.{FrameStep, End, Truncated, Length, Many, Frame, frame_step}
use Rattle.block_codec.specs.Spelling.{Decoder}
use Rattle.block_codec.specs.declared.limits.TheConstants.{MAX_FRAMES}
use Rattle.block_codec.specs.declared.block.Block.{Block}
use Rattle.chain_replay.specs.Judging.{Placer, Taken, judgement_of, added_by}
use Rattle.chain_replay.specs.declared.refusal.Refusal.{Refusal}
use Rattle.chain_input.specs.declared.cause.Cause.{Cause}
use Rattle.chain_input.specs.declared.cause.Cause.TheVariants as causes

-- How the frames of an input end: all were taken, or one was refused, with its number, from 0, and
-- the cause.
pub data FoldEnd : Type 0 where
  Whole : FoldEnd
  Refused : ℕ → Cause → FoldEnd

-- What becomes of the frames of an input: those that were taken, in order; how they end; and the
-- bytes that follow what was read of the input.
pub record Fold : Type 0 where
  pub taken : List Taken
  pub end : FoldEnd
  pub left : List ℕ

-- The fold takes no further frame.
abbrev pub ends_at : FoldEnd → List ℕ → Fold
ends_at end left = record { taken = []; end = end; left = left }

-- The fold with these frames taken before its own.
abbrev pub taken_before : List Taken → Fold → Fold
taken_before taken fold = record { taken = taken ++ fold.taken; end = fold.end; left = fold.left }

-- The fold after a judged frame: it goes on by `next` if the frame is taken, and ends if it is
-- refused.
abbrev pub fold_after_frame : (List Block → List ℕ → Fold) → ℕ → List Block → List ℕ → Result Taken Refusal → Fold
fold_after_frame next count blocks rest (Ok frame) = taken_before (frame ∷ []) (next (blocks ++ added_by frame) rest)
fold_after_frame next count blocks rest (Err refusal) = ends_at (Refused count (causes.Block refusal)) rest

-- One step of the fold, by what is at the start of the input after `count` frames were taken;
-- `read` says what the bytes of a frame spell, `place` where a block stands after others.
abbrev pub fold_step : Decoder → Placer → (List Block → List ℕ → Fold) → ℕ → List Block → List ℕ → FrameStep → Fold
fold_step read place next count blocks input End = ends_at Whole []
fold_step read place next count blocks input Truncated = ends_at (Refused count causes.Truncated) []
fold_step read place next count blocks input (Length size) = ends_at (Refused count (causes.Length size)) (drop 4 input)
fold_step read place next count blocks input Many = ends_at (Refused count causes.Many) (drop 4 input)
fold_step read place next count blocks input (Frame frame rest) =
    fold_after_frame next count blocks rest (judgement_of place blocks (read frame))

-- The fold of the frames of an input after these blocks. `more` bounds how often the start of the
-- input is looked at: an input has at most MAX_FRAMES frames, so MAX_FRAMES + 1 looks reach its
-- end.
unfoldable pub fold_from : Decoder → Placer → ℕ → List Block → List ℕ → Fold
fold_from read place zero blocks input = ends_at Whole []
fold_from read place (suc more) blocks input =
    fold_step read place (fold_from read place more) (MAX_FRAMES - more) blocks input (frame_step (MAX_FRAMES - more) input)

-- The fold of the frames of an input, from no block.
abbrev pub fold_input : Decoder → Placer → List ℕ → Fold
fold_input read place input = fold_from read place (MAX_FRAMES + 1) [] input
