-- Frames: how a block file is split into the bytes of its blocks.
use Rattle.std.specs.Prelude.{◌≡◌, ℕ, ◌+◌, ◌≤◌, ◌==◌, nat_lt, ◌||◌, if◌then◌else◌, List, [], length, take, drop, Option, Some, None, Result, Ok, Err}
use Rattle.std.specs.Int.{w32, from_be_bytes}
use Rattle.block_codec.specs.declared.limits.TheConstants.{MAX_BLOCK_BYTES, MAX_FRAMES}
use Rattle.block_codec.specs.declared.error.FrameError.{FrameError}
use Rattle.block_codec.specs.declared.error.FrameError.TheVariants as errors

-- What is at the start of an input.
pub data FrameStep : Type 0 where
  -- nothing
  End : FrameStep
  -- a frame that the input ends within
  Truncated : FrameStep
  -- a length that no frame has
  Length : ℕ → FrameStep
  -- a frame after the most that an input may have
  Many : FrameStep
  -- the bytes of a frame, and what follows them
  Frame : List ℕ → List ℕ → FrameStep

-- The next `count` bytes, if the input has that many.
abbrev pub frame_of : ℕ → List ℕ → FrameStep
frame_of count input = if nat_lt (length input) count then Truncated else Frame (take count input) (drop count input)

-- A frame of this length, if a frame may have it and fewer than `MAX_FRAMES` were taken before.
abbrev pub sized_frame : ℕ → ℕ → List ℕ → FrameStep
sized_frame taken count input =
    if count == 0 || nat_lt MAX_BLOCK_BYTES count then Length count
    else (if taken == MAX_FRAMES then Many else frame_of count input)

-- What is at the start of an input of which `taken` frames were taken: a length of four bytes, the
-- most significant first, and that many bytes.
unfoldable pub frame_step : ℕ → List ℕ → FrameStep
frame_step taken input =
    if length input == 0 then End
    else (if nat_lt (length input) 4 then Truncated
    else sized_frame taken (from_be_bytes w32 (take 4 input)) (drop 4 input))

-- What a reader of frames returns for an input, and what it leaves. A fault of the source and being
-- out of memory say nothing about the input.
abbrev pub IsFrameAnswer : ℕ → List ℕ → Result (Option (List ℕ × ℕ)) FrameError → Option (List ℕ) → Type 0
IsFrameAnswer taken input (Ok None) left = (frame_step taken input ≡ End) × (left ≡ Some [])
IsFrameAnswer taken input (Ok (Some frame)) left = (rest : List ℕ) × (frame_step taken input ≡ Frame frame.0 rest) × (left ≡ Some rest)
IsFrameAnswer taken input (Err errors.Truncated) left = (frame_step taken input ≡ Truncated) × (left ≡ Some [])
IsFrameAnswer taken input (Err (errors.Length count)) left = (frame_step taken input ≡ Length count) × (left ≡ Some (drop 4 input))
IsFrameAnswer taken input (Err errors.Many) left = (frame_step taken input ≡ Many) × (left ≡ Some (drop 4 input))
IsFrameAnswer taken input (Err errors.Fault) left = Unit {0}
IsFrameAnswer taken input (Err errors.Memory) left = Unit {0}

-- A frame that is taken is counted, up to `MAX_FRAMES`.
abbrev pub CountsFrame : ℕ → Result (Option (List ℕ × ℕ)) FrameError → Type 0
CountsFrame taken (Ok (Some frame)) = (frame.1 ≡ taken + 1) × (frame.1 ≤ MAX_FRAMES)
CountsFrame taken (Ok None) = Unit {0}
CountsFrame taken (Err error) = Unit {0}

-- The bytes of a frame, or that the input ends within it.
abbrev pub IsBody : FrameStep → Result (List ℕ) FrameError → Option (List ℕ) → Type 0
IsBody step (Ok bytes) left = (rest : List ℕ) × (step ≡ Frame bytes rest) × (left ≡ Some rest)
IsBody step (Err errors.Truncated) left = (step ≡ Truncated) × (left ≡ Some [])
IsBody step (Err errors.Fault) left = Unit {0}
IsBody step (Err errors.Memory) left = Unit {0}
IsBody step (Err error) left = ⊥
