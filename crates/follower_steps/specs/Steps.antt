-- A follower: what it keeps, and what becomes of each block that is delivered to it.
use Rattle.std.specs.Prelude.{◌≡◌, ◌≢◌, ◌≤◌, ℕ, ◌+◌, ◌-◌, ◌==◌, Bool, nat_lt, if◌then◌else◌, List}
use Rattle.std.specs.Prelude.{[], ◌∷◌, ◌++◌, length}
use Rattle.std.specs.Prelude.{slice_get, Option, Some, None, is_some, Result, Ok, Err}
use Rattle.std.specs.List.{All, AllPairs, position, remove}
use Rattle.std.specs.Option.{option_map}
use Rattle.block_codec.specs.Reading.{block_in}
use Rattle.block_codec.specs.declared.block.Block.{Block}
use Rattle.chain_replay.specs.Judging.{Taken, Placer, judgement_of}
use Rattle.chain_replay.specs.Judging as judging
use Rattle.chain_replay.specs.declared.refusal.Refusal.{Refusal}
use Rattle.chain_replay.specs.declared.refusal.Refusal.TheVariants as refusals
use Rattle.follower_steps.specs.declared.cause.Cause.{Cause}
use Rattle.follower_steps.specs.declared.cause.Cause.TheVariants as causes
use Rattle.follower_steps.specs.declared.limits.TheConstants.{MAX_AHEAD}
use Rattle.follower_steps.specs.declared.waiting.Waiting.{Waiting}
use Rattle.follower_steps.specs.declared.waiting.Arrival.{Arrival}
use Rattle.follower_steps.specs.declared.waiting.Arrival.TheVariants as arrivals

-- The place of a block after those of a chain that is marked, or isn't.
abbrev pub PlacerByMark : Type 0
PlacerByMark = Bool → Placer

-- ---- the state

-- A follower: the blocks of its chain, whether its log is marked, the blocks that wait for those
-- before them, and how many blocks it has acknowledged.
pub record State : Type 0 where
  pub blocks : List Block
  pub marked : Bool
  pub waiting : List Waiting
  pub acknowledged : ℕ

-- A follower that starts with these blocks: none waits, and all of them are acknowledged.
abbrev pub started : List Block → Bool → State
started blocks marked =
    record { blocks = blocks; marked = marked; waiting = []; acknowledged = length blocks }

-- The index of the first block with this number among those that wait, if there is one.
abbrev pub position_of : ℕ → List Waiting → Option ℕ
position_of number waiting = position (λ (block : Waiting). block.number == number) waiting

-- The bytes of a block that waits spell one with its number.
abbrev pub SpellsItsNumber : Waiting → Type 0
SpellsItsNumber waiting =
    (block : Block) × (block_in waiting.bytes ≡ Ok block) × (block.number ≡ waiting.number)

-- What holds of the blocks that wait, within a delivery too, if `held` blocks are held: they have
-- different numbers, from that of the next block to `MAX_AHEAD` above it, and the bytes of each
-- spell its number.
pub record AreAhead (held : ℕ) (waiting : List Waiting) : Type 0 where
  pub apart : AllPairs (λ one other. one.number ≢ other.number) waiting
  pub new : All (λ block. held ≤ block.number) waiting
  pub near : All (λ block. block.number ≤ held + MAX_AHEAD) waiting
  pub own : All SpellsItsNumber waiting

-- ---- one turn

-- What became of a block in a turn: it was added; it is known, as the one that is held; it is kept
-- until the blocks before this number, its own, are held; or it was dropped, and this is the index
-- of the frame that brought it.
pub data Turned : Type 0 where
  Added : Block → Turned
  Known : Block → Turned
  Kept : ℕ → Turned
  Dropped : ℕ → Cause → Turned

-- The follower after a turn, and what became of the block.
pub record Step : Type 0 where
  pub state : State
  pub turned : Turned

-- The block of the frame `index` has this judgement: it is added, it is known, or it is dropped.
abbrev pub judged : State → ℕ → Result Taken Refusal → Step
judged state index (Ok (judging.Added block)) = record {
  state = record state { blocks = state.blocks ++ block ∷ [] };
  turned = Added block;
}
judged state index (Ok (judging.Known block)) =
    record { state = state; turned = Known block }
judged state index (Err refusal) =
    record { state = state; turned = Dropped index (causes.Refused refusal) }

-- The chain decides about the bytes of the frame `index`, by where their block is placed in it.
abbrev pub decided : PlacerByMark → State → ℕ → List ℕ → Step
decided place state index bytes =
    judged state index (judgement_of (place state.marked) state.blocks (block_in bytes))

-- The block of the frame `index`, which has this number, waits for those before it.
abbrev pub kept : State → ℕ → ℕ → List ℕ → Step
kept state index number bytes = record {
  state = record state {
    waiting = state.waiting ++ record { index = index; number = number; bytes = bytes } ∷ [];
  };
  turned = Kept number;
}

-- The block of the frame `index` is dropped.
abbrev pub dropped : State → ℕ → Cause → Step
dropped state index cause = record { state = state; turned = Dropped index cause }

-- ---- the first turn of a delivery

-- What is to become of a block with this number, if `held` blocks are held and these wait: the
-- first of these that applies. Its number is held: it is known, or a fork. It is more than
-- `MAX_AHEAD` above the number of held blocks: it is far. A block with its number waits: the number
-- is taken. It is above the number of held blocks: it is early. Otherwise it is the next one, and
-- due.
abbrev pub arrival_of : ℕ → List Waiting → ℕ → Arrival
arrival_of held waiting number =
    if nat_lt number held then arrivals.Held number
    else (if nat_lt MAX_AHEAD (number - held) then arrivals.Dropped (causes.Far held)
    else (if is_some (position_of number waiting) then arrivals.Dropped causes.Taken
    else (if nat_lt held number then arrivals.Early number
    else arrivals.Due)))

-- The same of bytes, by what they spell: if that is no block they are dropped as malformed.
abbrev pub arrival_in : ℕ → List Waiting → Result Block ℕ → Arrival
arrival_in held waiting (Ok block) = arrival_of held waiting block.number
arrival_in held waiting (Err offset) =
    arrivals.Dropped (causes.Refused (refusals.Malformed offset))

-- The chain decides about a block whose number is held, and about one that is due; an early one is
-- kept, and all others are dropped.
abbrev pub arrived : PlacerByMark → State → ℕ → List ℕ → Arrival → Step
arrived place state index bytes (arrivals.Held number) = decided place state index bytes
arrived place state index bytes arrivals.Due = decided place state index bytes
arrived place state index bytes (arrivals.Early number) = kept state index number bytes
arrived place state index bytes (arrivals.Dropped cause) = dropped state index cause

-- The first turn of the delivery of the frame `index`.
abbrev pub first_turn : PlacerByMark → State → ℕ → List ℕ → Step
first_turn place state index bytes = arrived place state index bytes
    (arrival_in (length state.blocks) state.waiting (block_in bytes))

-- ---- a further turn of a delivery

-- The follower without the waiting block at this index.
abbrev pub without : State → ℕ → State
without state at = record state { waiting = remove state.waiting at }

-- The waiting block at this index is taken out, and the chain decides about it.
abbrev pub taken_out : PlacerByMark → State → ℕ → Option Step
taken_out place state at =
    option_map (λ (block : Waiting). decided place (without state at) block.index block.bytes)
    (slice_get state.waiting at)

-- The same, if some block is to be taken out.
abbrev pub turn_at : PlacerByMark → State → Option ℕ → Option Step
turn_at place state None = None
turn_at place state (Some at) = taken_out place state at

-- A further turn: the waiting block whose number is the number of held blocks is taken out, and the
-- chain decides about it. None, if no such block waits.
abbrev pub further_turn : PlacerByMark → State → Option Step
further_turn place state = turn_at place state (position_of (length state.blocks) state.waiting)
