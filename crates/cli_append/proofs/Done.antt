-- What a follower has done, piece by piece: what was done later follows what was done before, and
-- each turn lengthens the chain by the blocks that it adds, and keeps what its line promises.
use Rattle.std.proofs.Common.{◌≡◌, ℕ, suc, zero, Bool, List, [], ◌∷◌, ◌++◌, length, refl, sym, ◌∙◌}
use Rattle.std.proofs.Common.{ap, subst, append_assoc, append-nil}
use Rattle.std.specs.Prelude.{Option, Some, None, Result, Ok, Err, slice_get}
use Rattle.std.specs.Option.{option_map}
use Rattle.block_codec.specs.Reading.{block_in}
use Rattle.block_codec.specs.declared.block.Block.{Block}
use Rattle.block_log.specs.Standing.{Logged, with_blocks}
use Rattle.chain_exec.specs.Compiled.{Compiler, compiled_in}
use Rattle.cli_promises.specs.recovery.Node.{stored_placement}
use Rattle.chain_replay.specs.Judging.{Taken, judgement_of}
use Rattle.chain_replay.specs.Judging as judging
use Rattle.chain_replay.specs.declared.refusal.Refusal.{Refusal}
use Rattle.cli_promises.specs.Appending.{line_of}
use Rattle.cli_promises.specs.Promises.{Line}
use Rattle.cli_promises.proofs.Sure.{IsSure, AreSure, all_sure_more}
use Rattle.cli_append.proofs.Promised.{line_sure}
use Rattle.follower_steps.specs.declared.waiting.Waiting.{Waiting}
use Rattle.follower_steps.specs.declared.waiting.Arrival.{Arrival}
use Rattle.follower_steps.specs.declared.waiting.Arrival.TheVariants as arrivals
use Rattle.follower_steps.specs.Steps.{PlacerByMark, State, Step, judged, decided}
use Rattle.follower_steps.specs.Steps.{arrived, arrival_in, first_turn, further_turn}
use Rattle.follower_steps.specs.Steps.{without, turn_at, position_of}
use Rattle.cli_promises.specs.Following.{turn_line, added_in, Followed, nothing_done}
use Rattle.cli_promises.specs.Following.{after_step, after_any, after_more, after_all}
use Rattle.cli_promises.specs.Following.{all_acknowledged, after_frame}
use Rattle.cli_append.specs.FollowSteps.{chain_held}

-- ---- one after another

abbrev pub done_with : State → List Line → List Block → Followed
done_with state lines added = record { state = state; lines = lines; added = added }

-- the first was done, and then the second
abbrev pub more_done : Followed → Followed → Followed
more_done one two = done_with two.state (one.lines ++ two.lines) (one.added ++ two.added)

pub more_none : (done : Followed) → more_done done (nothing_done done.state) ≡ done
more_none done =
    ap (λ (l : List Line). done_with done.state l (done.added ++ [])) (append-nil done.lines)
    ∙ ap (λ (b : List Block). done_with done.state done.lines b) (append-nil done.added)

pub more_more : (one two three : Followed)
    → more_done (more_done one two) three ≡ more_done one (more_done two three)
more_more one two three =
    ap (λ (l : List Line). done_with three.state l ((one.added ++ two.added) ++ three.added))
    (append_assoc one.lines two.lines three.lines)
    ∙ ap (λ (b : List Block). done_with three.state (one.lines ++ (two.lines ++ three.lines)) b)
    (append_assoc one.added two.added three.added)

module _ (compile : Compiler) where
  -- a step after what was done is that step from its state
  pub after_any_from : (done : Followed) (step : Option Step) → after_any compile done step
      ≡ more_done done (after_any compile (nothing_done done.state) step)
  after_any_from done None = sym (more_none done)
  after_any_from done (Some step) = refl

module _ (compile : Compiler) (place : PlacerByMark) where
  -- further turns after what was done are those from its state
  pub after_more_from : (n : ℕ) (done : Followed) → after_more compile place n done
      ≡ more_done done (after_more compile place n (nothing_done done.state))
  after_more_from zero done = sym (more_none done)
  after_more_from (suc n) done =
      let step : Option Step = further_turn place done.state in
      let start : Followed = after_any compile (nothing_done done.state) step in
      ap (λ (d : Followed). after_more compile place n d) (after_any_from compile done step)
      ∙ after_more_from n (more_done done start)
      ∙ more_more done start (after_more compile place n (nothing_done start.state))
      ∙ ap (more_done done) (sym (after_more_from n start))

  pub after_all_from : (done : Followed) → after_all compile place done
      ≡ more_done done (after_all compile place (nothing_done done.state))
  after_all_from done = after_more_from (length done.state.waiting) done

  -- what all further turns after both do
  after_both : (done start : Followed) → after_all compile place (more_done done start)
      ≡ more_done done (after_all compile place start)
  after_both done start =
      after_all_from (more_done done start)
      ∙ more_more done start (after_all compile place (nothing_done start.state))
      ∙ ap (more_done done) (sym (after_all_from start))

  -- a frame after what was done is that frame from its state
  pub after_frame_from : (done : Followed) (index : ℕ) (bytes : List ℕ)
      → after_frame compile place done index bytes
      ≡ more_done done (after_frame compile place (nothing_done done.state) index bytes)
  after_frame_from done index bytes =
      ap all_acknowledged (after_both done (after_step compile (nothing_done done.state)
      (first_turn place done.state index bytes)))

-- ---- the chain and the promises

-- What was done from this state on added its blocks to the chain of the state, left the mark as it
-- was, and the chain has what the lines promise.
pub record Grown (state : State) (done : Followed) : Type 0 where
  pub blocks_are : done.state.blocks ≡ state.blocks ++ done.added
  pub marked_is : done.state.marked ≡ state.marked
  pub sure : AreSure (chain_held done.state) done.lines

abbrev chain_with : List Block → Bool → Logged
chain_with blocks marked = record { blocks = blocks; marked = marked }

-- the chain is that from before, and the added blocks
pub chain_grown : (state : State) (done : Followed) → Grown state done
    → chain_held done.state ≡ with_blocks (chain_held state) done.added
chain_grown state done g =
    ap (λ (b : List Block). chain_with b done.state.marked) g.blocks_are
    ∙ ap (λ (m : Bool). chain_with (state.blocks ++ done.added) m) g.marked_is

-- a chain that has what some lines promise, and what others do
pub sure_both : (logged : Logged) (one two : List Line) → AreSure logged one → AreSure logged two
    → AreSure logged (one ++ two)
sure_both logged [] two first second = second
sure_both logged (line ∷ one) two first second =
    (first.0, sure_both logged one two first.1 second)

pub grown_none : (state : State) → Grown state (nothing_done state)
grown_none state =
    record { blocks_are = sym (append-nil state.blocks); marked_is = refl; sure = tt }

pub grown_more : (state : State) (one two : Followed) → Grown state one → Grown one.state two
    → Grown state (more_done one two)
grown_more state one two first second = record {
  blocks_are = second.blocks_are ∙ ap (λ (b : List Block). b ++ two.added) first.blocks_are
      ∙ append_assoc state.blocks one.added two.added;
  marked_is = second.marked_is ∙ first.marked_is;
  sure = sure_both (chain_held two.state) one.lines two.lines
      (subst (λ (l : Logged). AreSure l one.lines) (sym (chain_grown one.state two second))
      (all_sure_more (chain_held one.state) two.added one.lines first.sure)) second.sure;
}

-- a step that adds its block and leaves the mark, and whose line promises what the chain then has
grown_step : (state : State) (step : Step)
    → step.state.blocks ≡ state.blocks ++ added_in step.turned → step.state.marked ≡ state.marked
    → IsSure (chain_held step.state) (turn_line compiled_in state.blocks step.turned).promise
    → Grown state (after_step compiled_in (nothing_done state) step)
grown_step state step blocks_are marked_is sure =
    record { blocks_are = blocks_are; marked_is = marked_is; sure = (sure, tt) }

judged_grown : (state : State) (index : ℕ) (spelled : Result Block ℕ)
    (judgement : Result Taken Refusal)
    → judgement_of (stored_placement state.marked) state.blocks spelled ≡ judgement
    → Grown state (after_step compiled_in (nothing_done state) (judged state index judgement))
judged_grown state index spelled (Ok (judging.Added block)) is =
    grown_step state (judged state index (Ok (judging.Added block))) refl refl
    (line_sure (chain_held state) spelled (judging.Added block) is)
judged_grown state index spelled (Ok (judging.Known block)) is =
    grown_step state (judged state index (Ok (judging.Known block))) (sym (append-nil state.blocks))
    refl (subst (λ (b : List Block). IsSure (chain_with b state.marked)
    (line_of compiled_in state.blocks (judging.Known block)).promise) (append-nil state.blocks)
    (line_sure (chain_held state) spelled (judging.Known block) is))
judged_grown state index spelled (Err refusal) is =
    grown_step state (judged state index (Err refusal)) (sym (append-nil state.blocks)) refl tt

pub grown_decided : (state : State) (index : ℕ) (bytes : List ℕ) → Grown state
    (after_step compiled_in (nothing_done state) (decided stored_placement state index bytes))
grown_decided state index bytes =
    judged_grown state index (block_in bytes)
    (judgement_of (stored_placement state.marked) state.blocks (block_in bytes)) refl

arrived_grown : (state : State) (index : ℕ) (bytes : List ℕ) (arrival : Arrival) → Grown state
    (after_step compiled_in (nothing_done state)
    (arrived stored_placement state index bytes arrival))
arrived_grown state index bytes (arrivals.Held number) = grown_decided state index bytes
arrived_grown state index bytes arrivals.Due = grown_decided state index bytes
arrived_grown state index bytes (arrivals.Early number) =
    grown_step state (arrived stored_placement state index bytes (arrivals.Early number))
    (sym (append-nil state.blocks)) refl tt
arrived_grown state index bytes (arrivals.Dropped cause) =
    grown_step state (arrived stored_placement state index bytes (arrivals.Dropped cause))
    (sym (append-nil state.blocks)) refl tt

-- the first turn of a delivery
pub grown_first : (state : State) (index : ℕ) (bytes : List ℕ) → Grown state
    (after_step compiled_in (nothing_done state) (first_turn stored_placement state index bytes))
grown_first state index bytes = arrived_grown state index bytes
    (arrival_in (length state.blocks) state.waiting (block_in bytes))

-- the waiting block at an index is taken out, if there is one
out_grown : (state : State) (at : ℕ) (found : Option Waiting) → Grown state
    (after_any compiled_in (nothing_done state)
    (option_map (λ (block : Waiting). decided stored_placement (without state at) block.index
    block.bytes) found))
out_grown state at None = grown_none state
out_grown state at (Some block) =
    let g = grown_decided (without state at) block.index block.bytes in
    record { blocks_are = g.blocks_are; marked_is = g.marked_is; sure = g.sure }

at_grown : (state : State) (found : Option ℕ) → Grown state
    (after_any compiled_in (nothing_done state) (turn_at stored_placement state found))
at_grown state None = grown_none state
at_grown state (Some at) = out_grown state at (slice_get state.waiting at)

-- a further turn, if there is one
pub grown_any : (state : State) → Grown state
    (after_any compiled_in (nothing_done state) (further_turn stored_placement state))
grown_any state = at_grown state (position_of (length state.blocks) state.waiting)

-- so many further turns
pub grown_further : (n : ℕ) (state : State) → Grown state
    (after_more compiled_in stored_placement n (nothing_done state))
grown_further zero state = grown_none state
grown_further (suc n) state =
    let start : Followed = after_any compiled_in (nothing_done state)
    (further_turn stored_placement state) in
    subst (Grown state) (sym (after_more_from compiled_in stored_placement n start))
    (grown_more state start
    (after_more compiled_in stored_placement n (nothing_done start.state)) (grown_any state)
    (grown_further n start.state))

-- all further turns
pub grown_all : (state : State) → Grown state
    (after_all compiled_in stored_placement (nothing_done state))
grown_all state = grown_further (length state.waiting) state

-- a frame
pub grown_frame : (state : State) (index : ℕ) (bytes : List ℕ) → Grown state
    (after_frame compiled_in stored_placement (nothing_done state) index bytes)
grown_frame state index bytes =
    let start : Followed = after_step compiled_in (nothing_done state)
    (first_turn stored_placement state index bytes) in
    let g = subst (Grown state) (sym (after_all_from compiled_in stored_placement start))
    (grown_more state start (after_all compiled_in stored_placement (nothing_done start.state))
    (grown_first state index bytes) (grown_all start.state)) in
    record { blocks_are = g.blocks_are; marked_is = g.marked_is; sure = g.sure }
