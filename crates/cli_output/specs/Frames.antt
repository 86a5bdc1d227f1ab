-- The frames of an input, whatever their bytes are taken for.
use Rattle.std.specs.Prelude.{ℕ, zero, suc, ◌+◌, ◌-◌, List, [], ◌∷◌, drop}
use Rattle.block_codec.specs.Frames.{FrameStep, End, Truncated, Length, Many, Frame, frame_step}
use Rattle.block_codec.specs.declared.limits.TheConstants.{MAX_FRAMES}
use Rattle.replay_soundness.specs.chain_input.Folding.{FoldEnd, Whole, Refused}
use Rattle.replay_soundness.specs.chain_input.declared.cause.Cause.TheVariants as causes

-- The bytes of the frames of an input, in order, up to one that is refused for its form; how they
-- end; and the bytes that follow what was read of the input.
pub record Framed : Type 0 where
  pub frames : List (List ℕ)
  pub end : FoldEnd
  pub left : List ℕ

-- No further frame.
abbrev pub no_frame : FoldEnd → List ℕ → Framed
no_frame end left = record { frames = []; end = end; left = left }

-- A frame, and then these.
abbrev pub frame_before : List ℕ → Framed → Framed
frame_before frame framed =
    record { frames = frame ∷ framed.frames; end = framed.end; left = framed.left }

-- The frames after `count` others, by what is at the start of the input: `next` has those that
-- follow a frame.
abbrev pub framed_step : (List ℕ → Framed) → ℕ → List ℕ → FrameStep → Framed
framed_step next count input End = no_frame Whole []
framed_step next count input Truncated = no_frame (Refused count causes.Truncated) []
framed_step next count input (Length size) =
    no_frame (Refused count (causes.Length size)) (drop 4 input)
framed_step next count input Many = no_frame (Refused count causes.Many) (drop 4 input)
framed_step next count input (Frame frame rest) = frame_before frame (next rest)

-- The same. `more` bounds how often the start of the input is looked at: an input has at most
-- MAX_FRAMES frames, so MAX_FRAMES + 1 looks reach its end.
unfoldable pub framed_from : ℕ → List ℕ → Framed
framed_from zero input = no_frame Whole []
framed_from (suc more) input =
    framed_step (framed_from more) (MAX_FRAMES - more) input (frame_step (MAX_FRAMES - more) input)

-- The frames of an input.
abbrev pub framed : List ℕ → Framed
framed input = framed_from (MAX_FRAMES + 1) input
