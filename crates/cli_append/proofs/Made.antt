-- One turn: what was printed of it, and what a crash may leave.
use Rattle.std.proofs.Common.{◌≡◌, inl, inr, ℕ, suc, zero, ◌<◌, true, false, List, [], ◌∷◌}
use Rattle.std.proofs.Common.{length, refl, sym, ◌∙◌, ap, subst, arith}
use Rattle.std.specs.Prelude.{Option, Some, None, is_some, Result, Ok, Err, IfOk, is_ok, IsErrOf}
use Rattle.std.specs.Prelude.{◌==◌}
use Rattle.std.proofs.lemmas.List.Edits.{length-remove}
use Rattle.std.proofs.lemmas.List.Quantifiers.{position-Some}
use Rattle.lc_io.specs.Disk.{DiskState, Stays}
use Rattle.lc_io.specs.Outside.{Tell}
use Rattle.disk_model.specs.Disk.{Keeps}
use Rattle.disk_model.proofs.Moments.{then_keeps, weaker}
use Rattle.block_codec.specs.declared.block.Block.{Block}
use Rattle.chain_exec.specs.Compiled.{Compiler, compiled_in}
use Rattle.cli_promises.specs.recovery.Node.{next_in_chain, chain_in}
use Rattle.cli_promises.specs.Promises.{IsKeptAt, IsPartly, Telling}
use Rattle.cli_promises.proofs.Tellings.{none_told, still, told_since}
use Rattle.cli_promises.proofs.Sure.{sure_kept, partly_longer}
use Rattle.cli_promises.specs.Appending.{IsKnown}
use Rattle.cli_promises.specs.declared.ending.RunStop.{RunStop}
use Rattle.cli_promises.proofs.Resting.{with_none}
use Rattle.follow_core.specs.Follower.{FollowerState, IsFollowerOf, IsTurn, IsTurnImage}
use Rattle.follow_core.specs.Follower.{HasMadeAny}
use Rattle.follow_core.specs.Turning.{adds, waiting_without}
use Rattle.follow_core.specs.declared.turn.Turn.{Turn}
use Rattle.follow_core.specs.declared.turn.Turn.TheVariants as turns
use Rattle.follower_steps.specs.declared.waiting.Waiting.{Waiting}
use Rattle.follower_steps.specs.Steps.{PlacerByMark, State, Step, Turned, position_of}
use Rattle.follower_steps.specs.Steps.{further_turn}
use Rattle.follower_steps.specs.Events.{state_after}
use Rattle.follower_steps.proofs.Turns.{fewer_at}
use Rattle.cli_promises.specs.Following.{turn_line, added_in, Followed, nothing_done, after_step}
use Rattle.cli_promises.specs.Following.{after_any, after_more, after_all}
use Rattle.cli_append.specs.FollowSteps.{turn_text}
use Rattle.cli_append.specs.Steps.{TellsLine}
use Rattle.cli_append.specs.FollowSteps.{chain_held, Follows}
use Rattle.cli_append.proofs.Done.{Grown, chain_grown}
use Rattle.cli_append.proofs.Joined.{chain_rests, none_follows}

-- ---- what is reported of a turn

-- what is printed of a turn is its line
turn_said : (blocks : List Block) (turned : Turned) (turn : Turn) → IsTurn blocks turned turn
    → turn_text turn ≡ (turn_line compiled_in blocks turned).text
turn_said blocks turned (turns.Block number rows receipts root)
    (block, is, number_is, rows_is, receipts_are, root_is) =
    rw (is, number_is, rows_is, receipts_are, root_is) refl
turn_said blocks turned (turns.Known number) (block, is, number_is) = rw (is, number_is) refl
turn_said blocks turned (turns.Kept number) is = rw is refl
turn_said blocks turned (turns.Dropped index cause) is = rw is refl

-- if no block was added, none is reported
none_added : (blocks : List Block) (turned : Turned) (turn : Turn) → IsTurn blocks turned turn
    → added_in turned ≡ [] → adds turn ≡ false
none_added blocks turned (turns.Block number rows receipts root)
    (block, is, number_is, rows_is, receipts_are, root_is) none = absurd
    (cc (sym (ap added_in is) ∙ none))
none_added blocks turned (turns.Known number) is none = refl
none_added blocks turned (turns.Kept number) is none = refl
none_added blocks turned (turns.Dropped index cause) is none = refl

-- ---- what waits

-- if a waiting block was taken out, one fewer waits
pub fewer_wait : (held : ℕ) (before after : List Waiting) (found : Option ℕ)
    → position_of held before ≡ found → true ≡ is_some found
    → after ≡ waiting_without before found → length after < length before
fewer_wait held before after None is some rest = absurd (cc some)
fewer_wait held before after (Some at) is some rest =
    let here = (position-Some (λ (block : Waiting). block.number == held) before at
    (record { index = 0; number = 0; bytes = [] }) is).0 in
    rw rest (omega (arith, length-remove before at here))

-- ---- all further turns

module _ (compile : Compiler) (place : PlacerByMark) where
  -- all further turns are the next one, if there is one, and all others
  all_next : (done : Followed) (step : Option Step) → further_turn place done.state ≡ step
      → after_all compile place done ≡ after_all compile place (after_any compile done step)
  all_next done None is = refl
  all_next done (Some step) is =
      let fewer = fewer_at place done.state (position_of (length done.state.blocks)
      done.state.waiting) step is in
      let count : length done.state.waiting ≡ suc (length step.state.waiting) =
      omega (arith, fewer) in
      ap (λ (n : ℕ). after_more compile place n done) count
      ∙ ap (λ (s : Option Step). after_more compile place (length step.state.waiting)
      (after_any compile done s)) is

  pub all_further : (done : Followed) → after_all compile place done
      ≡ after_all compile place (after_any compile done (further_turn place done.state))
  all_further done = all_next done (further_turn place done.state) refl

  -- if there is no further turn, all of them are none
  none_further : (n : ℕ) (done : Followed) → further_turn place done.state ≡ None
      → after_more compile place n done ≡ done
  none_further zero done none = refl
  none_further (suc n) done none =
      ap (λ (s : Option Step). after_more compile place n (after_any compile done s)) none
      ∙ none_further n done none

  pub none_left : (done : Followed) → further_turn place done.state ≡ None
      → after_all compile place done ≡ done
  none_left done none = none_further (length done.state.waiting) done none

-- ---- what a crash may leave

-- the chain from before a turn, or from after it, is some first ones of the blocks that it adds
turn_partly : (state : State) (step : Option Step) (image : List ℕ)
    → Grown state (after_any compiled_in (nothing_done state) step)
    → IsTurnImage state (state_after state step) image
    → IsPartly next_in_chain (chain_held state)
    (after_any compiled_in (nothing_done state) step).added image
turn_partly state step image grown (inl is) =
    (0, is ∙ ap Some (sym (with_none (chain_held state))))
turn_partly state None image grown (inr is) =
    (0, is ∙ ap Some (sym (with_none (chain_held state))))
turn_partly state (Some step) image grown (inr is) =
    partly_longer next_in_chain (chain_held state) [] (added_in step.turned) (chain_held state)
    image (sym (with_none (chain_held state)))
    (is ∙ ap Some (chain_grown state (after_step compiled_in (nothing_done state) step) grown))

-- a further turn that is not reported is none
pub none_made : (disk : Option DiskState) (state : State) (step : Option Step)
    (next : FollowerState) → HasMadeAny disk state step (Ok (next, None))
    → (step ≡ None) × IsFollowerOf next disk state
none_made disk state None next is = (refl, is)
none_made disk state (Some step) next is = absurd is

-- ---- what is returned after the line of a turn

-- the follower that made the turn, or why its line wasn't printed wholly
abbrev pub told_by : FollowerState → Result (Unit {0}) RunStop → Result FollowerState RunStop
told_by next (Ok done) = Ok next
told_by next (Err stop) = Err stop

told_whole : (next : FollowerState) (told : Result (Unit {0}) RunStop)
    → is_ok told ≡ is_ok (told_by next told)
told_whole next (Ok done) = refl
told_whole next (Err stop) = refl

-- what holds of the follower holds of the one that is returned
pub if_told : (next : FollowerState) (P : FollowerState → Type 0)
    (told : Result (Unit {0}) RunStop) → P next → IfOk (told_by next told) P
if_told next P (Ok done) p = p
if_told next P (Err stop) p = tt

-- it blames what the line blames
pub blames_told : (next : FollowerState) (told : Result (Unit {0}) RunStop) (stop : RunStop)
    → IsErrOf (told_by next told) stop → IsErrOf told stop
blames_told next (Ok done) stop is = absurd (cc is)
blames_told next (Err other) stop is = let same : other ≡ stop = cc is in ap Err same

pub told_blames : (next : FollowerState) (told : Result (Unit {0}) RunStop) (stop : RunStop)
    → IsErrOf told stop → IsErrOf (told_by next told) stop
told_blames next (Ok done) stop is = absurd (cc is)
told_blames next (Err other) stop is = let same : other ≡ stop = cc is in ap Err same

module _ {D : Type 0} (now : D → ℕ) (disk : D → ℕ → Option DiskState)
    (told : D → Option (List Tell)) where
  -- a turn was made, and its line printed, or its first bytes
  turn_follows : (disk_faults wire_faults : D → ℕ) (old mid new : D) (state : State) (step : Step)
      (turn : Turn) (next : FollowerState) (result : Result (Unit {0}) RunStop)
      → Grown state (after_step compiled_in (nothing_done state) step)
      → (IsKnown (disk old (now old)) → Keeps now disk old mid (IsTurnImage state step.state))
      → told mid ≡ told old → (adds turn ≡ false → mid ≡ old)
      → IsTurn state.blocks step.turned turn → IsFollowerOf next (disk mid (now mid)) step.state
      → TellsLine now disk told disk_faults wire_faults mid new (turn_text turn) result
      → Follows now disk told old new state (after_step compiled_in (nothing_done state) step)
      (λ f. f) (told_by next result)
  turn_follows disk_faults wire_faults old mid new state step turn next result grown images same
      untouched is_turn is_next tells =
      let P : List ℕ → Type 0 = λ image. chain_in image ≡ Some (chain_held step.state) in
      let Q : List ℕ → Type 0 = IsPartly next_in_chain (chain_held state) (added_in step.turned) in
      let line = turn_line compiled_in state.blocks step.turned in
      let rests = chain_rests now disk told mid step.state next is_next in
      let here : IsKeptAt next_in_chain now disk mid line.promise = λ s image at shows.
      sure_kept next_in_chain (chain_held step.state) line.promise image grown.sure.0
      (rests s image at shows) in
      record {
        images = λ is_told. then_keeps now disk old mid new Q
            (weaker now disk old mid (IsTurnImage state step.state) Q (images is_told)
            (λ image at. turn_partly state (Some step) image grown at))
            (weaker now disk mid new P Q
            (still next_in_chain now disk told mid new P rests tells.stays)
            (λ image at. turn_partly state (Some step) image grown (inr at)));
        lines = λ is_told. subst (Telling next_in_chain now disk told old new (line ∷ []))
            (told_whole next result)
            (told_since next_in_chain now disk told old mid new (line ∷ []) (is_ok result) same
            (subst (λ (b : List ℕ). Telling next_in_chain now disk told mid new
            (record { text = b; promise = line.promise } ∷ []) (is_ok result))
            (turn_said state.blocks step.turned turn is_turn)
            (tells.lines next_in_chain line.promise here)));
        unwritten = λ ok none. subst (λ (m : D). Stays now disk m new)
            (untouched (none_added state.blocks step.turned turn is_turn none)) tells.stays;
        answer = if_told next (λ f. IsFollowerOf f (disk new (now new)) step.state) result
            (subst (λ (o : Option DiskState). IsFollowerOf next o step.state)
            (sym tells.stays.last) is_next);
      }

  -- the same, if a turn was to be made
  pub any_follows : (disk_faults wire_faults : D → ℕ) (old mid new : D) (state : State)
      (step : Option Step) (turn : Turn) (next : FollowerState)
      (result : Result (Unit {0}) RunStop)
      → Grown state (after_any compiled_in (nothing_done state) step)
      → (IsKnown (disk old (now old)) → Keeps now disk old mid
      (IsTurnImage state (state_after state step)))
      → told mid ≡ told old → (adds turn ≡ false → mid ≡ old)
      → HasMadeAny (disk mid (now mid)) state step (Ok (next, Some turn))
      → TellsLine now disk told disk_faults wire_faults mid new (turn_text turn) result
      → Follows now disk told old new state (after_any compiled_in (nothing_done state) step)
      (λ f. f) (told_by next result)
  any_follows disk_faults wire_faults old mid new state None turn next result grown images same
      untouched made tells = absurd made
  any_follows disk_faults wire_faults old mid new state (Some step) turn next result grown images
      same untouched made tells = turn_follows disk_faults wire_faults old mid new state step turn
      next result grown images same untouched made.0 made.1 tells

  -- there was no further turn
  pub none_any : (old mid : D) (state : State) (step : Option Step) (next : FollowerState)
      → mid ≡ old → HasMadeAny (disk mid (now mid)) state step (Ok (next, None))
      → Follows now disk told old mid state (after_any compiled_in (nothing_done state) step)
      (λ f. f) (Ok next)
  none_any old mid state None next same made =
      subst (λ (m : D). Follows now disk told m mid state (nothing_done state) (λ f. f) (Ok next))
      same (none_follows now disk told mid state next made)
  none_any old mid state (Some step) next same made = absurd made

  -- a device failed, or memory ran out, before anything was printed
  pub fault_follows : (old mid : D) (state : State) (step : Option Step) (stop : RunStop)
      → Grown state (after_any compiled_in (nothing_done state) step)
      → (IsKnown (disk old (now old)) → Keeps now disk old mid
      (IsTurnImage state (state_after state step)))
      → told mid ≡ told old
      → Follows {T = FollowerState} now disk told old mid state
      (after_any compiled_in (nothing_done state) step) (λ f. f) (Err stop)
  fault_follows old mid state step stop grown images same = record {
    images = λ is_told. weaker now disk old mid (IsTurnImage state (state_after state step))
        (IsPartly next_in_chain (chain_held state)
        (after_any compiled_in (nothing_done state) step).added) (images is_told)
        (λ image at. turn_partly state step image grown at);
    lines = λ is_told. none_told next_in_chain now disk told old mid
        (after_any compiled_in (nothing_done state) step).lines same;
    unwritten = λ ok none. absurd (cc ok);
    answer = tt;
  }
