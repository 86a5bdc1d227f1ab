-- A follower over its node, and what it reports of its turns.
use Rattle.std.specs.Prelude.{◌≡◌, ◌⊎◌, ℕ, List, [], ◌∷◌, ◌++◌, length, Option, Some, None}
use Rattle.std.specs.Prelude.{Result, Ok, Err}
use Rattle.lc_io.specs.Disk.{DiskState}
use Rattle.block_codec.specs.declared.block.Block.{Block}
use Rattle.chain_exec.specs.Compiled.{compiled_in}
use Rattle.chain_exec.specs.Fold.{block_effects}
use Rattle.chain_exec.specs.Replay.{replay}
use Rattle.recovery.specs.rooted_chain.Roots.{root_in}
use Rattle.recovery.specs.Node.{NodeState, IsNodeOf, chain_in}
use Rattle.follower_steps.specs.declared.waiting.Waiting.{Waiting}
use Rattle.follower_steps.specs.Steps.{State, Step, Turned, Added, Known, Kept, Dropped}
use Rattle.follow_core.specs.declared.turn.Turn.{Turn}
use Rattle.follow_core.specs.declared.turn.Turn.TheVariants as turns
use Rattle.follow_core.specs.declared.turn.FollowFault.{FollowFault}

-- What a follower keeps: its node, and the blocks that wait.
pub record FollowerState : Type 0 where
  pub node : NodeState
  pub waiting : List Waiting

-- The follower is in this state: its node is of these blocks, marked as they are, and these blocks
-- wait. What is acknowledged is not kept: it is what the lines that were printed say.
pub record IsFollowerOf (follower : FollowerState) (disk : Option DiskState) (state : State)
    : Type 0 where
  pub node : IsNodeOf follower.node disk state.blocks
  pub marked : follower.node.log.is_marked ≡ state.marked
  pub waiting : follower.waiting ≡ state.waiting

-- ---- what is reported of a turn

-- The turn reports what became of a block in a follower of these blocks. An added one is reported
-- with its rows, its receipts and the root at it.
abbrev pub IsTurn : List Block → Turned → Turn → Type 0
IsTurn blocks turned (turns.Block number rows receipts root) =
    (block : Block) × (turned ≡ Added block) × (number ≡ block.number)
    × (rows ≡ length (block_effects compiled_in (replay compiled_in blocks) block).rows)
    × (receipts ≡ (block_effects compiled_in (replay compiled_in blocks) block).receipts)
    × (root.0 ≡ root_in compiled_in (blocks ++ block ∷ []) block.number)
IsTurn blocks turned (turns.Known number) =
    (block : Block) × (turned ≡ Known block) × (number ≡ block.number)
IsTurn blocks turned (turns.Kept number) = turned ≡ Kept number
IsTurn blocks turned (turns.Dropped index cause) = turned ≡ Dropped index cause

-- The follower made this step from a state with these blocks, and reports it. Nothing is said if a
-- device failed or memory ran out.
abbrev pub HasMade : Option DiskState → List Block → Step
    → Result (FollowerState × Turn) FollowFault → Type 0
HasMade disk blocks step (Ok done) = IsTurn blocks step.turned done.1
    × IsFollowerOf done.0 disk step.state
HasMade disk blocks step (Err fault) = Unit {0}

-- The same of a further step: if there is none, none is reported, and the follower is in the same
-- state.
abbrev pub HasMadeAny : Option DiskState → State → Option Step
    → Result (FollowerState × Option Turn) FollowFault → Type 0
HasMadeAny disk state None (Ok (follower, None)) = IsFollowerOf follower disk state
HasMadeAny disk state None (Ok (follower, Some turn)) = ⊥
HasMadeAny disk state (Some step) (Ok (follower, None)) = ⊥
HasMadeAny disk state (Some step) (Ok (follower, Some turn)) =
    IsTurn state.blocks step.turned turn × IsFollowerOf follower disk step.state
HasMadeAny disk state step (Err fault) = Unit {0}

-- What a crash may leave in a turn that leads from one state to the next: the chain of the one, or
-- that of the other.
abbrev pub IsTurnImage : State → State → List ℕ → Type 0
IsTurnImage old new image =
    (chain_in image ≡ Some (record { blocks = old.blocks; marked = old.marked }))
    ⊎ (chain_in image ≡ Some (record { blocks = new.blocks; marked = new.marked }))
