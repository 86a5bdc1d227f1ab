-- Taking the frames of an input one after another, whatever takes them: `turn` says what one frame
-- does, from the taker and the chain before it to what the taker returns.
use Rattle.std.specs.Prelude.{◌≡◌, ℕ, zero, suc, ◌+◌, ◌≤◌, List, Option, Some, None, Result, Ok, Err, IfSome}
use Rattle.block_codec.specs.Frames.{IsFrameAnswer}
use Rattle.block_codec.specs.declared.limits.TheConstants.{MAX_FRAMES}
use Rattle.block_codec.specs.declared.error.FrameError.{FrameError}
use Rattle.block_codec.specs.declared.error.FrameError.TheVariants as errors
use Rattle.chain_input.specs.declared.cause.Cause.{Cause}
use Rattle.chain_input.specs.declared.cause.Cause.TheVariants as causes
use Rattle.chain_input.specs.declared.taking.Turn.{Turn}
use Rattle.chain_input.specs.declared.taking.Turn.TheVariants as turns
use Rattle.chain_input.specs.declared.taking.InputEnd.{InputEnd}
use Rattle.chain_input.specs.declared.taking.InputEnd.TheVariants as ends
use Rattle.chain_input.specs.declared.taking.InputStop.{InputStop}
use Rattle.chain_input.specs.declared.taking.InputStop.TheVariants as stops

-- What a frame's turn may be, for a taker of type T, a chain of type C and a stop of type E.
abbrev pub TurnRule : Type 0 → Type 0 → Type 0 → Type 1
TurnRule T C E = T → C → List ℕ → T → Result (Turn C) E → Type 0

-- Where the loop stands: what the source has left, if it is known, the taker, and the chain.
pub record At (T C : Type 0) : Type 0 where
  pub left : Option (List ℕ)
  pub taker : T
  pub chain : C

-- What a look at the start of what is left finds after `count` frames, if it is known what is left.
abbrev pub LooksAt : ℕ → Option (List ℕ) → Result (Option (List ℕ × ℕ)) FrameError → Option (List ℕ) → Type 0
LooksAt count left answer after = IfSome left (λ input. IsFrameAnswer count input answer after)

-- A frame was read after `count` others, and this is its turn.
pub record HasTurn {T C E : Type 0} (turn : TurnRule T C E) (count : ℕ) (before : At T C) (left : Option (List ℕ)) (taker : T) (result : Result (Turn C) E) : Type 0 where
  pub frame : List ℕ
  pub read : LooksAt count before.left (Ok (Some (frame, count + 1))) left
  pub turn_is : turn before.taker before.chain frame taker result

-- So many frames were taken, one after another.
abbrev pub TakesFrames : {T C E : Type 0} → TurnRule T C E → At T C → ℕ → At T C → Type 0
TakesFrames turn first zero now = now ≡ first
TakesFrames {T} {C} turn first (suc count) now =
    (before : At T C) × TakesFrames turn first count before × HasTurn turn count before now.left now.taker (Ok (turns.Taken now.chain))

-- What is at the start of what is left, after `count` frames, is refused for this cause: the input
-- ends within the frame, no frame has its length, there are too many, or the taker refuses it.
abbrev pub RefusesFrame : {T C E : Type 0} → TurnRule T C E → ℕ → At T C → Option (List ℕ) → T → Cause → Type 0
RefusesFrame turn count before left taker causes.Truncated = LooksAt count before.left (Err errors.Truncated) left × (taker ≡ before.taker)
RefusesFrame turn count before left taker (causes.Length size) = LooksAt count before.left (Err (errors.Length size)) left × (taker ≡ before.taker)
RefusesFrame turn count before left taker causes.Many = LooksAt count before.left (Err errors.Many) left × (taker ≡ before.taker)
RefusesFrame turn count before left taker (causes.Block refusal) = HasTurn turn count before left taker (Ok (turns.Refused refusal))

-- How it ends after `count` frames: the input has ended, the next frame is refused, or nothing more
-- is said of the input, which a stop of the taker leaves after its frame.
abbrev pub EndsAfter : {T C E : Type 0} → TurnRule T C E → ℕ → At T C → Option (List ℕ) → T → Result (InputEnd C) (InputStop E) → Type 0
EndsAfter turn count before left taker (Ok (ends.Whole chain)) = LooksAt count before.left (Ok None) left × (taker ≡ before.taker) × (chain ≡ before.chain)
EndsAfter turn count before left taker (Ok (ends.Refused frame cause)) = (frame ≡ count) × RefusesFrame turn count before left taker cause
EndsAfter turn count before left taker (Err stops.Fault) = taker ≡ before.taker
EndsAfter turn count before left taker (Err stops.Memory) = taker ≡ before.taker
EndsAfter turn count before left taker (Err (stops.Taker stop)) = HasTurn turn count before left taker (Err stop)

-- The frames of an input were taken in order, from `first` on, and then it ended so.
pub record TakesInput {T C E : Type 0} (turn : TurnRule T C E) (first : At T C) (left : Option (List ℕ)) (taker : T) (result : Result (InputEnd C) (InputStop E)) : Type 0 where
  pub count : ℕ
  pub bound : count ≤ MAX_FRAMES
  pub last : At T C
  pub taken : TakesFrames turn first count last
  pub end : EndsAfter turn count last left taker result
