-- Laws of a follower.
use Rattle.std.specs.Prelude.{◌≡◌, ◌≢◌, ℕ, suc, ◌<◌, ◌≤◌, Bool, true, false, List, [], ◌++◌}
use Rattle.std.specs.Prelude.{length, None, IfSome}
use Rattle.std.specs.List.{All}
use Rattle.block_codec.specs.declared.block.Block.{Block}
use Rattle.block_codec.specs.declared.placement.Misplaced.TheVariants as misplaced
use Rattle.chain_replay.specs.chain_exec.Compiled.{Compiler}
use Rattle.chain_replay.specs.Chain.{IsChain, placement_by_mark}
use Rattle.chain_replay.specs.declared.refusal.Refusal.TheVariants as refusals
use Rattle.follower_steps.specs.declared.cause.Cause.TheVariants as causes
use Rattle.follower_steps.specs.declared.limits.TheConstants.{MAX_AHEAD}
use Rattle.follower_steps.specs.declared.waiting.Waiting.{Waiting}
use Rattle.follower_steps.specs.Steps.{PlacerByMark, State, AreAhead, started, further_turn}
use Rattle.follower_steps.specs.Steps.{Turned, Added, Known, Kept, Dropped}
use Rattle.follower_steps.specs.Events.{Event, Crash, CrashWithin, AreEventsOf, after}
use Rattle.follower_steps.specs.Events.{after_event, after_turns, settled, turn_after}

-- ---- a follower and its leader

-- The first list is some first blocks of the second, or all of them.
abbrev pub IsPrefixOf : List Block → List Block → Type 0
IsPrefixOf prefix blocks = (rest : List Block) × (prefix ++ rest ≡ blocks)

-- The follower's blocks are a prefix of the leader's, and it holds every acknowledged one.
pub record IsFollowing (leader : List Block) (state : State) : Type 0 where
  pub prefix : IsPrefixOf state.blocks leader
  pub held : state.acknowledged ≤ length state.blocks

-- A follower that starts with a prefix of the leader's chain, none say, marked or not, follows this
-- chain after any events of its frames.
abbrev pub FollowsTheLeader : Type 0
FollowsTheLeader = (compile : Compiler) (leader : List Block) → IsChain compile leader
    → (events : List Event) → AreEventsOf leader events
    → (blocks : List Block) (marked : Bool) → IsPrefixOf blocks leader
    → IsFollowing leader (after (placement_by_mark compile) (started blocks marked) events)

-- ---- any follower, whatever arrives

-- What is acknowledged after some events is so after more, however blocks are placed.
abbrev pub AcknowledgedNeverFalls : Type 0
AcknowledgedNeverFalls = (place : PlacerByMark) (blocks : List Block) (marked : Bool)
    (events more : List Event)
    → (after place (started blocks marked) events).acknowledged
    ≤ (after place (started blocks marked) (events ++ more)).acknowledged

-- A crash between two deliveries leaves the blocks that are held, and none that waits; so does one
-- within a delivery, of the blocks from before its last turn or from after it.
pub record IsEmptied (place : PlacerByMark) (state : State) : Type 0 where
  pub blocks : (after_event place state Crash).blocks ≡ state.blocks
  pub none : (after_event place state Crash).waiting ≡ []
  pub none_within : (index : ℕ) (bytes : List ℕ) (turns : ℕ) (is_stored : Bool)
      → (after_event place state (CrashWithin index bytes turns is_stored)).waiting ≡ []
  pub without : (index : ℕ) (bytes : List ℕ) (before : ℕ)
      → (after_event place state (CrashWithin index bytes (suc before) false)).blocks
      ≡ (after_turns place index bytes before state).blocks
  pub stored : (index : ℕ) (bytes : List ℕ) (before : ℕ)
      → (after_event place state (CrashWithin index bytes (suc before) true)).blocks
      ≡ (after_turns place index bytes (suc before) state).blocks

abbrev pub CrashesKeepTheHeld : Type 0
CrashesKeepTheHeld = (place : PlacerByMark) (state : State) → IsEmptied place state

-- After a crash within a delivery as many blocks are acknowledged as were held before its last
-- turn.
abbrev pub CrashesAcknowledgeTheTold : Type 0
CrashesAcknowledgeTheTold = (place : PlacerByMark) (state : State) (index : ℕ) (bytes : List ℕ)
    (before : ℕ) (is_stored : Bool)
    → (after_event place state (CrashWithin index bytes (suc before) is_stored)).acknowledged
    ≡ length (after_turns place index bytes before state).blocks

-- After all further turns of a delivery there is none.
abbrev pub DeliveriesLeaveNoneDue : Type 0
DeliveriesLeaveNoneDue = (place : PlacerByMark) (state : State)
    → further_turn place (settled place state) ≡ None

-- What holds of the blocks that wait between two deliveries: they are ahead, the next block isn't
-- among them, and so there are at most `MAX_AHEAD`.
pub record AreNearby (held : ℕ) (waiting : List Waiting) : Type 0 where
  pub ahead : AreAhead held waiting
  pub early : All (λ block. held < block.number) waiting
  pub few : length waiting ≤ MAX_AHEAD

-- After any events the blocks that wait are nearby.
abbrev pub WaitsNearby : Type 0
WaitsNearby = (compile : Compiler) (blocks : List Block) (marked : Bool) (events : List Event)
    → let state = after (placement_by_mark compile) (started blocks marked) events in
    AreNearby (length state.blocks) state.waiting

-- The chain didn't refuse the block because the next one has another number.
abbrev pub IsNotRefusedForNumber : Turned → Type 0
IsNotRefusedForNumber (Added block) = Unit {0}
IsNotRefusedForNumber (Known block) = Unit {0}
IsNotRefusedForNumber (Kept number) = Unit {0}
IsNotRefusedForNumber (Dropped index cause) =
    (want : ℕ) → cause ≢ causes.Refused (refusals.Placed (misplaced.Number want))

-- After any events, no turn of one more delivery is such a refusal.
abbrev pub RefusesNoneForNumber : Type 0
RefusesNoneForNumber = (compile : Compiler) (blocks : List Block) (marked : Bool)
    (events : List Event) (index : ℕ) (bytes : List ℕ) (before : ℕ)
    → let place = placement_by_mark compile in
    IfSome (turn_after place index bytes before (after place (started blocks marked) events))
    (λ step. IsNotRefusedForNumber step.turned)
