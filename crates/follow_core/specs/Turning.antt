-- What the calls of a follower do whatever is known of its devices, and what their parts return.
use Rattle.std.specs.Prelude.{◌≡◌, ℕ, ◌+◌, Bool, true, false, if◌then◌else◌, List, [], ◌∷◌, ◌++◌}
use Rattle.std.specs.Prelude.{length, Option, Some, None, Result, Ok, Err, slice_get}
use Rattle.std.specs.List.{remove}
use Rattle.std.specs.Option.{option_and_then}
use Rattle.lc_base.specs.declared.digest.Digest.{Digest}
use Rattle.lc_io.specs.Disk.{DiskState}
use Rattle.block_codec.specs.Placement.{bytes_digest, is_same_digest}
use Rattle.block_codec.specs.declared.block.Block.{Block}
use Rattle.block_codec.specs.declared.placement.Misplaced.TheVariants as misplaced
use Rattle.follower_steps.specs.chain_replay.Judging.{Known}
use Rattle.follower_steps.specs.chain_replay.declared.refusal.Refusal.{Refusal}
use Rattle.follower_steps.specs.chain_replay.declared.refusal.Refusal.TheVariants as refusals
use Rattle.recovery.specs.Node.{NodeState, KeepsLog, node_judgement}
use Rattle.recovery.specs.declared.node.Appended.{Appended}
use Rattle.recovery.specs.declared.node.Appended.TheVariants as appendeds
use Rattle.recovery.specs.declared.errors.AppendError.{AppendError}
use Rattle.recovery.specs.declared.errors.AppendError.TheVariants as errors
use Rattle.follower_steps.specs.declared.cause.Cause.TheVariants as causes
use Rattle.follower_steps.specs.declared.waiting.Waiting.{Waiting}
use Rattle.follower_steps.specs.declared.waiting.Arrival.{Arrival}
use Rattle.follower_steps.specs.declared.waiting.Arrival.TheVariants as arrivals
use Rattle.follower_steps.specs.Steps.{position_of}
use Rattle.follow_core.specs.Follower.{FollowerState}
use Rattle.follow_core.specs.declared.turn.Turn.{Turn}
use Rattle.follow_core.specs.declared.turn.Turn.TheVariants as turns
use Rattle.follow_core.specs.declared.turn.FollowFault.{FollowFault}
use Rattle.follow_core.specs.declared.turn.FollowFault.TheVariants as faults

-- ---- the blocks that wait

-- The blocks that wait after the frame `index` arrived.
abbrev pub waiting_with : List Waiting → ℕ → List ℕ → Arrival → List Waiting
waiting_with waiting index bytes (arrivals.Held number) = waiting
waiting_with waiting index bytes arrivals.Due = waiting
waiting_with waiting index bytes (arrivals.Early number) =
    waiting ++ record { index = index; number = number; bytes = bytes } ∷ []
waiting_with waiting index bytes (arrivals.Dropped cause) = waiting

-- The blocks that wait after the one at this index was taken out.
abbrev pub waiting_without : List Waiting → Option ℕ → List Waiting
waiting_without waiting None = waiting
waiting_without waiting (Some at) = remove waiting at

-- The waiting block that is the next one, if `held` blocks are held.
abbrev pub due_in : ℕ → List Waiting → Option Waiting
due_in held waiting = option_and_then (slice_get waiting) (position_of held waiting)

-- ---- what a turn is, whatever is known of the devices

-- Whether the block is the next one, and none with its number waits, so that the chain decides
-- about it.
abbrev pub is_due : Arrival → Bool
is_due (arrivals.Held number) = false
is_due arrivals.Due = true
is_due (arrivals.Early number) = false
is_due (arrivals.Dropped cause) = false

-- What becomes of the block of the frame `index`, whose number is held, by the digest of the held
-- one and by its own: it is known, or dropped as a fork.
abbrev pub held_turn : ℕ → ℕ → Digest → Digest → Turn
held_turn index number have digest =
    if is_same_digest have digest then turns.Known number
    else turns.Dropped index (causes.Refused (refusals.Placed (misplaced.Fork have)))

-- The chain decided about these bytes of the frame `index`. If their block was added, its number is
-- that of the next one, and the node has the digest of the bytes after the others, and as many more
-- rows as are reported. Else the node is as it was, and the block is known, or dropped with the
-- chain's reason and this index: the digests that the node keeps, the number of its rows and the mark
-- say which.
abbrev pub IsDecided : NodeState → ℕ → List ℕ → NodeState → Turn → Type 0
IsDecided old index bytes node (turns.Block number rows receipts root) =
    (number ≡ length old.chain.digests)
    × (node.chain.digests ≡ old.chain.digests ++ bytes_digest bytes ∷ [])
    × (length node.chain.rows ≡ length old.chain.rows + rows)
IsDecided old index bytes node (turns.Known number) = (node ≡ old)
    × ((block : Block) × (node_judgement old bytes ≡ Ok (Known block)) × (number ≡ block.number))
IsDecided old index bytes node (turns.Kept number) = ⊥
IsDecided old index bytes node (turns.Dropped other cause) = (node ≡ old) × (other ≡ index)
    × ((refusal : Refusal) × (cause ≡ causes.Refused refusal)
    × (node_judgement old bytes ≡ Err refusal))

-- The first turn about these bytes of the frame `index`, by what was to become of them.
abbrev pub IsFirstTurn : NodeState → ℕ → List ℕ → Arrival → NodeState → Turn → Type 0
IsFirstTurn old index bytes (arrivals.Held number) node turn = (node ≡ old)
    × ((have : Digest) × (slice_get old.chain.digests number ≡ Some have)
    × (turn ≡ held_turn index number have (bytes_digest bytes)))
IsFirstTurn old index bytes arrivals.Due node turn = IsDecided old index bytes node turn
IsFirstTurn old index bytes (arrivals.Early number) node turn =
    (node ≡ old) × (turn ≡ turns.Kept number)
IsFirstTurn old index bytes (arrivals.Dropped cause) node turn =
    (node ≡ old) × (turn ≡ turns.Dropped index cause)

-- A further turn, about the waiting block that was the next one, if there was one.
abbrev pub IsFurtherTurn : NodeState → Option Waiting → NodeState → Option Turn → Type 0
IsFurtherTurn old None node None = node ≡ old
IsFurtherTurn old None node (Some turn) = ⊥
IsFurtherTurn old (Some block) node None = ⊥
IsFurtherTurn old (Some block) node (Some turn) =
    IsDecided old block.index block.bytes node turn

-- ---- the disk

-- Whether a block was added.
abbrev pub adds : Turn → Bool
adds (turns.Block number rows receipts root) = true
adds (turns.Known number) = false
adds (turns.Kept number) = false
adds (turns.Dropped index cause) = false

-- Whether a block was added, if a turn was made.
abbrev pub adds_any : Option Turn → Bool
adds_any None = false
adds_any (Some turn) = adds turn

-- Whether the disk was touched: a block was added, or the disk failed.
abbrev pub reaches_disk : {F T : Type 0} → (T → Bool) → Result (F × T) FollowFault → Bool
reaches_disk added (Ok done) = added done.1
reaches_disk added (Err faults.DiskFault) = true
reaches_disk added (Err faults.ScratchFault) = false
reaches_disk added (Err faults.Memory) = false

-- While this block that waited is taken, a crash at any moment leaves of the log by itself, with
-- rows not counted, the chain from before, or that with the block. If there is none, the disk is as
-- it was.
abbrev pub KeepsLogOf : {D : Type 0} → (D → ℕ) → (D → ℕ → Option DiskState) → D → D
    → Option Waiting → Type 0
KeepsLogOf now disk old new None = new ≡ old
KeepsLogOf now disk old new (Some block) = KeepsLog now disk old new block.bytes

-- ---- what is returned, by what the node returns

-- What became of a block that was not refused.
abbrev pub turn_of : Appended → Turn
turn_of (appendeds.Known number) = turns.Known number
turn_of (appendeds.Added number rows receipts root) = turns.Block number rows receipts root

-- What is returned if the node did not take the block of the frame `index`: a refused block is
-- dropped, and the node goes on.
abbrev pub refused_turn : ℕ → Option NodeState → AppendError → Result (NodeState × Turn) FollowFault
refused_turn index (Some node) (errors.Refused refusal) =
    Ok (node, turns.Dropped index (causes.Refused refusal))
refused_turn index None (errors.Refused refusal) = Err faults.Memory
refused_turn index back errors.DiskFault = Err faults.DiskFault
refused_turn index back errors.ScratchFault = Err faults.ScratchFault
refused_turn index back errors.Memory = Err faults.Memory

-- What is returned for the block of the frame `index`.
abbrev pub node_turn : ℕ → Result (NodeState × Appended) (Option NodeState × AppendError)
    → Result (NodeState × Turn) FollowFault
node_turn index (Ok done) = Ok (done.0, turn_of done.1)
node_turn index (Err back) = refused_turn index back.0 back.1

-- The follower of the node that is returned, for which these blocks wait.
abbrev pub with_waiting : List Waiting → Result (NodeState × Turn) FollowFault
    → Result (FollowerState × Turn) FollowFault
with_waiting waiting (Ok done) = Ok (record { node = done.0; waiting = waiting }, done.1)
with_waiting waiting (Err fault) = Err fault

-- A turn that was made, where there may be none.
abbrev pub made : Result (FollowerState × Turn) FollowFault
    → Result (FollowerState × Option Turn) FollowFault
made (Ok done) = Ok (done.0, Some done.1)
made (Err fault) = Err fault
