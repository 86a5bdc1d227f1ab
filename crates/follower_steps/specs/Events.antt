-- What may happen to a follower: deliveries of frames, losses of them, and crashes.
use Rattle.std.specs.Prelude.{◌≡◌, ℕ, suc, zero, Bool, if◌then◌else◌, List, [], ◌∷◌, length}
use Rattle.std.specs.Prelude.{Option, Some, None, IfSome, Ok}
use Rattle.std.specs.List.{All, Contains}
use Rattle.block_codec.specs.Reading.{block_in}
use Rattle.block_codec.specs.declared.block.Block.{Block}
use Rattle.follower_steps.specs.Steps.{PlacerByMark, State, Step, first_turn, further_turn}

-- ---- a delivery

-- The follower after a further turn, or as it was if there is none.
abbrev pub state_after : State → Option Step → State
state_after state None = state
state_after state (Some step) = step.state

-- The follower after so many further turns, or after all if there are fewer.
abbrev pub after_further : PlacerByMark → ℕ → State → State
after_further place zero state = state
after_further place (suc more) state =
    after_further place more (state_after state (further_turn place state))

-- The follower after so many turns of the delivery of the frame `index`, or after all if there are
-- fewer. Nothing is acknowledged here.
abbrev pub after_turns : PlacerByMark → ℕ → List ℕ → ℕ → State → State
after_turns place index bytes zero state = state
after_turns place index bytes (suc more) state =
    after_further place more (first_turn place state index bytes).state

-- What the delivery of the frame `index` makes in the turn after so many others, if it has one.
abbrev pub turn_after : PlacerByMark → ℕ → List ℕ → ℕ → State → Option Step
turn_after place index bytes zero state = Some (first_turn place state index bytes)
turn_after place index bytes (suc before) state =
    further_turn place (after_turns place index bytes (suc before) state)

-- The follower after all further turns: each takes out one of the blocks that wait.
abbrev pub settled : PlacerByMark → State → State
settled place state = after_further place (length state.waiting) state

-- All blocks that the follower holds are acknowledged.
abbrev pub acknowledged : State → State
acknowledged state = record state { acknowledged = length state.blocks }

-- A whole delivery of the frame `index`: the first turn and all further turns, and then all blocks
-- that are held are acknowledged.
abbrev pub delivered : PlacerByMark → State → ℕ → List ℕ → State
delivered place state index bytes =
    acknowledged (settled place (first_turn place state index bytes).state)

-- ---- a crash

-- No block waits any more.
abbrev pub emptied : State → State
emptied state = record state { waiting = [] }

-- A crash in a turn that leads from one state to the next: if the turn adds a block, then either
-- the chain has it afterwards (`is_stored`), or it doesn't. The blocks from before the turn are
-- acknowledged.
abbrev pub stopped_in : State → State → Bool → State
stopped_in before next is_stored =
    record (if is_stored then emptied next else emptied before) {
      acknowledged = length before.blocks;
    }

-- A crash within the delivery of the frame `index`, in the last of so many turns. If the delivery
-- has fewer, it crashes after all of them, and all blocks that are held then are acknowledged.
abbrev pub crashed_within : PlacerByMark → State → ℕ → List ℕ → ℕ → Bool → State
crashed_within place state index bytes zero is_stored = emptied state
crashed_within place state index bytes (suc before) is_stored =
    stopped_in (after_turns place index bytes before state)
    (after_turns place index bytes (suc before) state) is_stored

-- ---- events

-- The frame with this index and these bytes is delivered, or is lost; the follower crashes between
-- two deliveries; or it crashes within that of a frame, in the last of so many turns (before the
-- first if there are 0), with the block that this turn adds or without it.
pub data Event : Type 0 where
  Delivery : ℕ → List ℕ → Event
  Loss : ℕ → List ℕ → Event
  Crash : Event
  CrashWithin : ℕ → List ℕ → ℕ → Bool → Event

-- The follower after an event.
abbrev pub after_event : PlacerByMark → State → Event → State
after_event place state (Delivery index bytes) = delivered place state index bytes
after_event place state (Loss index bytes) = state
after_event place state Crash = emptied state
after_event place state (CrashWithin index bytes turns is_stored) =
    crashed_within place state index bytes turns is_stored

-- The follower after these events, in order.
abbrev pub after : PlacerByMark → State → List Event → State
after place state [] = state
after place state (event ∷ events) = after place (after_event place state event) events

-- ---- events of a leader's chain

-- The bytes of the frame that an event delivers, wholly or not, or loses.
abbrev pub frame_of : Event → Option (List ℕ)
frame_of (Delivery index bytes) = Some bytes
frame_of (Loss index bytes) = Some bytes
frame_of Crash = None
frame_of (CrashWithin index bytes turns is_stored) = Some bytes

-- The bytes spell one of these blocks.
abbrev pub IsFrameOf : List Block → List ℕ → Type 0
IsFrameOf blocks bytes = (block : Block) × Contains blocks block × (block_in bytes ≡ Ok block)

-- All events are of frames of these blocks, which come in any order, each any number of times.
abbrev pub AreEventsOf : List Block → List Event → Type 0
AreEventsOf blocks events = All (λ event. IfSome (frame_of event) (IsFrameOf blocks)) events
