-- What a turn does to a follower, case by case, and what all turns of a delivery keep.
use Rattle.std.proofs.Common.{◌≡◌, ℕ, suc, zero, ◌+◌, ◌≤◌, List, [], ◌∷◌, ◌++◌, length, refl}
use Rattle.std.proofs.Common.{sym, subst, arith}
use Rattle.std.specs.Prelude.{Option, Some, None, Result, Ok, Err, slice_get}
use Rattle.std.proofs.lemmas.List.Edits.{length-remove}
use Rattle.std.proofs.lemmas.Option.{slice_get_within}
use Rattle.block_codec.specs.Reading.{block_in}
use Rattle.block_codec.specs.declared.block.Block.{Block}
use Rattle.block_codec.specs.declared.placement.Placement.{Placement}
use Rattle.block_codec.specs.declared.placement.Placement.TheVariants.{Known, Next, Not}
use Rattle.chain_replay.specs.Judging.{Placer, judgement_of, judged_by_placement}
use Rattle.follower_steps.specs.declared.waiting.Waiting.{Waiting}
use Rattle.follower_steps.specs.declared.waiting.Arrival.{Arrival}
use Rattle.follower_steps.specs.declared.waiting.Arrival.TheVariants.{Held, Due, Early, Dropped}
use Rattle.follower_steps.specs.Steps.{PlacerByMark, State, Step, judged, decided, kept, arrived}
use Rattle.follower_steps.specs.Steps.{arrival_in, first_turn, further_turn, turn_at, taken_out}
use Rattle.follower_steps.specs.Steps.{position_of, without}
use Rattle.follower_steps.specs.Events.{state_after, after_further, after_turns}

-- ---- one block

-- the follower with one more block
abbrev pub with_block : State → Block → State
with_block state block = record state { blocks = state.blocks ++ block ∷ [] }

placed_cases : (P : State → Type 0) (state : State) (index : ℕ) (block : Block) (place : Placement)
    → P state → (place ≡ Next → P (with_block state block))
    → P (judged state index (judged_by_placement block place)).state
placed_cases P state index block Known same more = same
placed_cases P state index block Next same more = more refl
placed_cases P state index block (Not why) same more = same

judged_cases : (P : State → Type 0) (place : Placer) (state : State) (index : ℕ)
    (decoded : Result Block ℕ)
    → P state
    → ((block : Block) → decoded ≡ Ok block → place state.blocks block ≡ Next
    → P (with_block state block))
    → P (judged state index (judgement_of place state.blocks decoded)).state
judged_cases P place state index (Ok block) same more =
    placed_cases P state index block (place state.blocks block) same (more block refl)
judged_cases P place state index (Err offset) same more = same

-- ---- one turn

module _ (P : State → Type 0) (place : PlacerByMark) (state : State) where
  -- if the chain decides, the follower stays as it is, or has the next block too
  pub decided_cases : (index : ℕ) (bytes : List ℕ) → P state
      → ((block : Block) → block_in bytes ≡ Ok block → place state.marked state.blocks block ≡ Next
      → P (with_block state block))
      → P (decided place state index bytes).state
  decided_cases index bytes same more =
      judged_cases P (place state.marked) state index (block_in bytes) same more

  arrived_cases : (index : ℕ) (bytes : List ℕ) (arrival : Arrival)
      → arrival_in (length state.blocks) state.waiting (block_in bytes) ≡ arrival → P state
      → ((number : ℕ)
      → arrival_in (length state.blocks) state.waiting (block_in bytes) ≡ Held number
      → P (decided place state index bytes).state)
      → ((number : ℕ)
      → arrival_in (length state.blocks) state.waiting (block_in bytes) ≡ Early number
      → P (kept state index number bytes).state)
      → (arrival_in (length state.blocks) state.waiting (block_in bytes) ≡ Due
      → P (decided place state index bytes).state)
      → P (arrived place state index bytes arrival).state
  arrived_cases index bytes (Held number) is same hold keep decide = hold number is
  arrived_cases index bytes Due is same hold keep decide = decide is
  arrived_cases index bytes (Early number) is same hold keep decide = keep number is
  arrived_cases index bytes (Dropped cause) is same hold keep decide = same

  -- a first turn leaves the follower as it is, keeps the block, or lets the chain decide about it
  pub first_cases : (index : ℕ) (bytes : List ℕ) → P state
      → ((number : ℕ)
      → arrival_in (length state.blocks) state.waiting (block_in bytes) ≡ Held number
      → P (decided place state index bytes).state)
      → ((number : ℕ)
      → arrival_in (length state.blocks) state.waiting (block_in bytes) ≡ Early number
      → P (kept state index number bytes).state)
      → (arrival_in (length state.blocks) state.waiting (block_in bytes) ≡ Due
      → P (decided place state index bytes).state)
      → P (first_turn place state index bytes).state
  first_cases index bytes same hold keep decide = arrived_cases index bytes
      (arrival_in (length state.blocks) state.waiting (block_in bytes)) refl same hold keep decide

  out_cases : (at : ℕ) (found : Option Waiting) → slice_get state.waiting at ≡ found → P state
      → ((block : Waiting) → slice_get state.waiting at ≡ Some block
      → P (decided place (without state at) block.index block.bytes).state)
      → P (state_after state (taken_out place state at))
  out_cases at None is same decide = rw is same
  out_cases at (Some block) is same decide = rw is (decide block is)

  at_cases : (found : Option ℕ) → position_of (length state.blocks) state.waiting ≡ found → P state
      → ((at : ℕ) (block : Waiting)
      → position_of (length state.blocks) state.waiting ≡ Some at
      → slice_get state.waiting at ≡ Some block
      → P (decided place (without state at) block.index block.bytes).state)
      → P (state_after state (turn_at place state found))
  at_cases None is same decide = same
  at_cases (Some at) is same decide =
      out_cases at (slice_get state.waiting at) refl same (λ block here. decide at block is here)

  -- a further turn is none, or the chain decides about a block that waits
  pub further_cases : P state
      → ((at : ℕ) (block : Waiting)
      → position_of (length state.blocks) state.waiting ≡ Some at
      → slice_get state.waiting at ≡ Some block
      → P (decided place (without state at) block.index block.bytes).state)
      → P (state_after state (further_turn place state))
  further_cases same decide =
      at_cases (position_of (length state.blocks) state.waiting) refl same decide

-- ---- all turns of a delivery

module _ (P : State → Type 0) (place : PlacerByMark)
    (further : (state : State) → P state → P (state_after state (further_turn place state)))
  where
    -- what each further turn keeps is kept by all of them
    pub further_keep : (n : ℕ) (state : State) → P state → P (after_further place n state)
    further_keep zero state p = p
    further_keep (suc n) state p =
        further_keep n (state_after state (further_turn place state)) (further state p)

    -- and by all turns, if the first one keeps it
    pub turns_keep : (index : ℕ) (bytes : List ℕ)
        → ((state : State) → P state → P (first_turn place state index bytes).state)
        → (n : ℕ) (state : State) → P state → P (after_turns place index bytes n state)
    turns_keep index bytes first zero state p = p
    turns_keep index bytes first (suc n) state p =
        further_keep n (first_turn place state index bytes).state (first state p)

-- one more further turn is the last one
pub one_more : (place : PlacerByMark) (n : ℕ) (state : State)
    → after_further place (suc n) state
    ≡ state_after (after_further place n state) (further_turn place (after_further place n state))
one_more place zero state = refl
one_more place (suc n) state = one_more place n (state_after state (further_turn place state))

-- ---- after all further turns there is none

module _ (place : PlacerByMark) where
  none_later : (n : ℕ) (state : State) → further_turn place state ≡ None
      → further_turn place (after_further place n state) ≡ None
  none_later zero state none = none
  none_later (suc n) state none = subst
      (λ (step : Option Step).
      further_turn place (after_further place n (state_after state step)) ≡ None) (sym none)
      (none_later n state none)

  -- if the chain decides about a block that waited, one fewer waits
  fewer_out : (state : State) (at : ℕ) (found : Option Waiting) → slice_get state.waiting at ≡ found
      → (step : Step) → taken_out place state at ≡ Some step
      → length step.state.waiting + 1 ≡ length state.waiting
  fewer_out state at None is step made = absurd (cc (made, is))
  fewer_out state at (Some block) is step made =
      let out : taken_out place state at
      ≡ Some (decided place (without state at) block.index block.bytes) = rw is refl in
      let same : step ≡ decided place (without state at) block.index block.bytes = cc (made, out) in
      let fewer = length-remove state.waiting at (slice_get_within state.waiting at block is) in
      rw same (decided_cases (λ (s : State). length s.waiting + 1 ≡ length state.waiting) place
      (without state at) block.index block.bytes fewer (λ b read next. fewer))

  pub fewer_at : (state : State) (found : Option ℕ) (step : Step)
      → turn_at place state found ≡ Some step
      → length step.state.waiting + 1 ≡ length state.waiting
  fewer_at state None step made = absurd (cc made)
  fewer_at state (Some at) step made =
      fewer_out state at (slice_get state.waiting at) refl step made

  none_waits : (state : State) (waiting : List Waiting) → state.waiting ≡ waiting
      → length waiting ≤ 0 → further_turn place state ≡ None
  none_waits state [] is few = rw is refl
  none_waits state (w ∷ ws) is few = absurd (omega (arith, few))

  settles_on : (n : ℕ) (state : State) → length state.waiting ≤ suc n
      → ((next : State) → length next.waiting ≤ n
      → further_turn place (after_further place n next) ≡ None)
      → (step : Option Step) → further_turn place state ≡ step
      → further_turn place (after_further place n (state_after state step)) ≡ None
  settles_on n state few others None is = none_later n state is
  settles_on n state few others (Some step) is = others step.state
      (omega (arith, few, fewer_at state (position_of (length state.blocks) state.waiting) step is))

  pub settles : (n : ℕ) (state : State) → length state.waiting ≤ n
      → further_turn place (after_further place n state) ≡ None
  settles zero state few = none_waits state state.waiting refl few
  settles (suc n) state few =
      settles_on n state few (settles n) (further_turn place state) refl
