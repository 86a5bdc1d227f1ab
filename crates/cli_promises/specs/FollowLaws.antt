-- Laws of `follow`: what its fold says of deliveries, of held blocks and of a leader's chain.
use Rattle.std.specs.Prelude.{◌≡◌, ℕ, ◌+◌, List, [], ◌∷◌, ◌++◌, Some, slice_get}
use Rattle.std.specs.List.{All}
use Rattle.block_codec.specs.Frames.{Frame, frame_step}
use Rattle.block_codec.specs.declared.block.Block.{Block}
use Rattle.block_log.specs.Standing.{Logged}
use Rattle.follower_steps.specs.chain_exec.Compiled.{Compiler, compiled_in}
use Rattle.follower_steps.specs.chain_replay.Chain.{IsChain}
use Rattle.recovery.specs.Node.{stored_placement}
use Rattle.follower_steps.specs.Steps.{PlacerByMark, State, started, Step, Known}
use Rattle.follower_steps.specs.Steps.{first_turn, further_turn}
use Rattle.follower_steps.specs.Events.{Event, Delivery, after, delivered, IsFrameOf}
use Rattle.follower_steps.specs.Laws.{IsPrefixOf}
use Rattle.cli_promises.specs.Promises.{Holds}
use Rattle.cli_promises.specs.Following.{Followed, turn_line, after_frame, follow_all}

-- ---- known blocks

-- The chain has a block with the number of this one, and the line that says so promises that this
-- held block stays.
pub record PromisesTheHeld (blocks : List Block) (block : Block) : Type 0 where
  pub held : Block
  pub there : slice_get blocks block.number ≡ Some held
  pub promise_is : (turn_line compiled_in blocks (Known block)).promise ≡ Holds block.number held

-- A turn that reports a block as known reports one that the follower holds, and the line of the
-- turn promises that it stays. It holds of first turns and of further ones.
pub record KnownIsHeld : Type 0 where
  pub first : (state : State) (index : ℕ) (bytes : List ℕ) (block : Block)
      → (first_turn stored_placement state index bytes).turned ≡ Known block
      → PromisesTheHeld state.blocks block
  pub further : (state : State) (step : Step) (block : Block)
      → further_turn stored_placement state ≡ Some step → step.turned ≡ Known block
      → PromisesTheHeld state.blocks block

-- ---- deliveries

-- Whatever a follower has done: a frame leads it to the state to which the delivery of that frame
-- leads it.
abbrev pub FramesAreDelivered : Type 0
FramesAreDelivered = (compile : Compiler) (place : PlacerByMark) (done : Followed) (index : ℕ)
    (bytes : List ℕ)
    → (after_frame compile place done index bytes).state ≡ delivered place done.state index bytes

-- These are the frames of an input, of which `count` were read before: each is at the start of what
-- follows the one before it, and after the last there is no further one.
abbrev pub AreFramesOf : ℕ → List ℕ → List (List ℕ) → Type 0
AreFramesOf count input [] =
    (frame rest : List ℕ) → frame_step count input ≡ Frame frame rest → ⊥
AreFramesOf count input (frame ∷ frames) =
    (rest : List ℕ) × (frame_step count input ≡ Frame frame rest)
    × AreFramesOf (count + 1) rest frames

-- Each of these frames is delivered, in order. The first has this index.
abbrev pub deliveries : ℕ → List (List ℕ) → List Event
deliveries index [] = []
deliveries index (frame ∷ frames) = Delivery index frame ∷ deliveries (index + 1) frames

-- Each input has frames.
abbrev pub InputsHaveFrames : Type 0
InputsHaveFrames = (input : List ℕ) → (frames : List (List ℕ)) × AreFramesOf 0 input frames

-- At the end of an input, the follower is in the state to which the deliveries of its frames lead,
-- with the indices 0, 1, 2 and so on.
abbrev pub InputsAreDelivered : Type 0
InputsAreDelivered = (compile : Compiler) (place : PlacerByMark) (logged : Logged)
    (input : List ℕ) (frames : List (List ℕ)) → AreFramesOf 0 input frames
    → (follow_all compile place logged input).done.state
    ≡ after place (started logged.blocks logged.marked) (deliveries 0 frames)

-- ---- a leader

-- If the chain of the log is a prefix of a leader's chain, and each frame of the input is one of
-- the leader's blocks, in any order and any number of times, then the chain with all added blocks
-- is a prefix of the leader's.
abbrev pub FollowsItsLeader : Type 0
FollowsItsLeader = (leader : List Block) → IsChain compiled_in leader → (logged : Logged)
    → IsPrefixOf logged.blocks leader → (input : List ℕ) (frames : List (List ℕ))
    → AreFramesOf 0 input frames → All (IsFrameOf leader) frames
    → IsPrefixOf (logged.blocks
    ++ (follow_all compiled_in stored_placement logged input).done.added) leader
