-- A further turn of a delivery: the waiting block that is next is taken out.
use Rattle.std.proofs.Common.{◌≡◌, ℕ, List, length, refl, sym, ◌∙◌, ap, subst}
use Rattle.std.specs.Prelude.{Option, Some, None, IfOk, IsErrOf, Result, Ok, Err, is_some}
use Rattle.std.specs.Prelude.{◌<◌, ◌==◌, false, [], slice_get, slice_index_or}
use Rattle.std.specs.List.{remove}
use Rattle.std.specs.Option.{option_map}
use Rattle.std.proofs.lemmas.List.Quantifiers.{position-Some}
use Rattle.std.proofs.lemmas.Option.{slice_get-get_or}
use Rattle.lc_base.specs.Faults.{HasCause}
use Rattle.lc_io.specs.Disk.{DiskState}
use Rattle.disk_model.specs.Disk.{Keeps}
use Rattle.lc_io.specs.Scratch.{ScratchState, Serves}
use Rattle.recovery.specs.Node.{NodeState, KeepsLog, stored_placement}
use Rattle.follower_steps.specs.declared.waiting.Waiting.{Waiting}
use Rattle.follower_steps.specs.Steps.{State, Step, AreAhead, decided, further_turn, turn_at}
use Rattle.follower_steps.specs.Steps.{position_of, without}
use Rattle.follower_steps.specs.Events.{state_after}
use Rattle.follower_steps.proofs.Nearby.{free_without}
use Rattle.follow_core.specs.declared.turn.Turn.{Turn}
use Rattle.follow_core.specs.declared.turn.FollowFault.{FollowFault}
use Rattle.follow_core.specs.declared.turn.FollowFault.TheVariants as faults
use Rattle.follow_core.specs.Follower.{FollowerState, IsFollowerOf, HasMade, HasMadeAny}
use Rattle.follow_core.specs.Follower.{IsTurnImage}
use Rattle.follow_core.specs.Turning.{IsDecided, IsFurtherTurn, KeepsLogOf, adds, adds_any, due_in}
use Rattle.follow_core.specs.Turning.{made, reaches_disk}
use Rattle.follow_core.specs.Turning.{waiting_without}
use Rattle.follow_core.proofs.Decisions.{cause_as}
use Rattle.follow_core.proofs.Delivered.{count_is}

abbrev Answer : Type 0
Answer = Result (FollowerState × Turn) FollowFault

module _ (follower : FollowerState) (disk : Option DiskState) (state : State)
    (is : IsFollowerOf follower disk state)
  where
    position_is : position_of (length state.blocks) state.waiting
        ≡ position_of (length follower.node.chain.digests) follower.waiting
    position_is =
        ap (λ (n : ℕ). position_of n state.waiting) (sym (count_is follower disk state is))
        ∙ ap (position_of (length follower.node.chain.digests)) (sym is.waiting)

    pub none_further : position_of (length follower.node.chain.digests) follower.waiting ≡ None
        → further_turn stored_placement state ≡ None
    none_further none = ap (turn_at stored_placement state) (position_is ∙ none)

    pub one_further : (at : ℕ) (block : Waiting)
        → position_of (length follower.node.chain.digests) follower.waiting ≡ Some at
        → slice_get follower.waiting at ≡ Some block
        → further_turn stored_placement state
        ≡ Some (decided stored_placement (without state at) block.index block.bytes)
    one_further at block there here =
        ap (turn_at stored_placement state) (position_is ∙ there)
        ∙ ap (option_map (λ (w : Waiting).
        decided stored_placement (without state at) w.index w.bytes))
        (ap (λ (ws : List Waiting). slice_get ws at) (sym is.waiting) ∙ here)

    -- the follower without that block
    pub rest_is : (at : ℕ) → IsFollowerOf
        (record { node = follower.node; waiting = remove follower.waiting at }) disk
        (without state at)
    rest_is at = record {
      node = is.node;
      marked = is.marked;
      waiting = ap (λ (ws : List Waiting). remove ws at) is.waiting;
    }

-- ---- what is returned of a turn that was made

pub any_made : (disk : Option DiskState) (state : State) (step : Step) (result : Answer)
    → HasMade disk state.blocks step result → HasMadeAny disk state (Some step) (made result)
any_made disk state step (Ok done) is = is
any_made disk state step (Err fault) is = tt

pub if_made : (P : FollowerState → Type 0) (result : Answer) → IfOk result (λ done. P done.0)
    → IfOk (made result) (λ done. P done.0)
if_made P (Ok done) p = p
if_made P (Err fault) p = tt

pub some_made : (result : Answer) (found : Option ℕ) (at : ℕ) → found ≡ Some at
    → IfOk (made result) (λ done. is_some done.1 ≡ is_some found)
some_made (Ok done) found at is = rw is refl
some_made (Err fault) found at is = tt

pub reaches_any : (result : Answer)
    → reaches_disk adds_any (made result) ≡ reaches_disk adds result
reaches_any (Ok done) = refl
reaches_any (Err faults.DiskFault) = refl
reaches_any (Err faults.ScratchFault) = refl
reaches_any (Err faults.Memory) = refl

failed_to : (result : Answer) (fault : FollowFault) → IsErrOf result fault
    → IsErrOf (made result) fault
failed_to (Ok done) fault e = absurd (cc e)
failed_to (Err other) fault e = cc e

failed_from : (result : Answer) (fault : FollowFault) → IsErrOf (made result) fault
    → IsErrOf result fault
failed_from (Ok done) fault e = absurd (cc e)
failed_from (Err other) fault e = cc e

pub cause_any : (result : Answer) (fault : FollowFault) (before now : ℕ)
    → HasCause before now (IsErrOf result fault) → HasCause before now (IsErrOf (made result) fault)
cause_any result fault before now cause =
    cause_as before now (failed_to result fault) (failed_from result fault) cause

pub serves_any : {S : Type 0} (state : S → ScratchState) (count : S → ℕ) (old new : S)
    (result : Answer) (fault : FollowFault) → Serves state count old new (IsErrOf result fault)
    → Serves state count old new (IsErrOf (made result) fault)
serves_any state count old new result fault serves = record {
  retains = serves.retains;
  cause = cause_any result fault (count old) (count new) serves.cause;
}

-- ---- the log

pub none_due : (held : ℕ) (waiting : List Waiting) → position_of held waiting ≡ None
    → due_in held waiting ≡ None
none_due held waiting none = rw none refl

pub one_due : (held : ℕ) (waiting : List Waiting) (at : ℕ) (block : Waiting)
    → position_of held waiting ≡ Some at → slice_get waiting at ≡ Some block
    → due_in held waiting ≡ Some block
one_due held waiting at block there here = rw there here

-- ---- the block that is taken out

-- a follower of these parts
abbrev pub with_parts : NodeState → List Waiting → FollowerState
with_parts node waiting = record { node = node; waiting = waiting }

pub found_within : (held : ℕ) (waiting : List Waiting) (at : ℕ)
    → position_of held waiting ≡ Some at → at < length waiting
found_within held waiting at there =
    let nothing : Waiting = record { index = 0; number = 0; bytes = [] } in
    (position-Some (λ (w : Waiting). w.number == held) waiting at nothing there).0

-- this block waits at this index with the number of the next one, and this is left without it
pub record IsTakenOut (follower rest : FollowerState) (at : ℕ) (block : Waiting) : Type 0 where
  pub there : position_of (length follower.node.chain.digests) follower.waiting ≡ Some at
  pub here : slice_get follower.waiting at ≡ Some block
  pub rest_as : rest ≡ with_parts follower.node (remove follower.waiting at)

module _ (follower : FollowerState) (node : NodeState) (waiting slice : List Waiting)
    (held : ℕ) (view : with_parts node waiting ≡ follower)
    (held_as : held ≡ length node.chain.digests) (slice_as : slice ≡ waiting)
  where
    found_as : position_of (length node.chain.digests) waiting ≡ position_of held slice
    found_as = sym (ap (λ (n : ℕ). position_of n slice) held_as
        ∙ ap (position_of (length node.chain.digests)) slice_as)

    pub none_there : None ≡ position_of held slice
        → position_of (length follower.node.chain.digests) follower.waiting ≡ None
    none_there none = subst
        (λ (f : FollowerState). position_of (length f.node.chain.digests) f.waiting ≡ None) view
        (found_as ∙ sym none)

    -- none that is left is the next one
    pub rest_free : (rest : List Waiting) (at : ℕ) → AreAhead (length node.chain.digests) waiting
        → Some at ≡ position_of held slice → rest ≡ remove waiting at
        → is_some (position_of (length node.chain.digests) rest) ≡ false
    rest_free rest at ahead found removed = rw removed
        (free_without (length node.chain.digests) waiting at ahead (found_as ∙ sym found))

    pub taken_out : (rest : List Waiting) (at : ℕ) (block : Waiting)
        → Some at ≡ position_of held slice → rest ≡ remove waiting at
        → block ≡ slice_index_or waiting at block
        → IsTakenOut follower (with_parts node rest) at block
    taken_out rest at block found removed value =
        let there : position_of (length node.chain.digests) waiting ≡ Some at =
        found_as ∙ sym found in
        let within = found_within (length node.chain.digests) waiting at there in
        record {
          there = subst
              (λ (f : FollowerState). position_of (length f.node.chain.digests) f.waiting ≡ Some at)
              view there;
          here = subst (λ (f : FollowerState). slice_get f.waiting at ≡ Some block) view
              (slice_get-get_or waiting at block within ∙ ap Some (sym value));
          rest_as = subst
              (λ (f : FollowerState). with_parts node rest
              ≡ with_parts f.node (remove f.waiting at))
              view (ap (with_parts node) removed);
        }

-- ---- what the call returns

module _ (follower : FollowerState)
    (none : position_of (length follower.node.chain.digests) follower.waiting ≡ None)
  where
    pub none_made : (disk : Option DiskState) (state : State) → IsFollowerOf follower disk state
        → HasMadeAny disk state (further_turn stored_placement state) (Ok (follower, None))
    none_made disk state is = subst
        (λ (s : Option Step). HasMadeAny disk state s (Ok (follower, None)))
        (sym (none_further follower disk state is none)) is

    pub none_log : {D : Type 0} (now : D → ℕ) (disk : D → ℕ → Option DiskState) (old : D)
        → KeepsLogOf now disk old old
        (due_in (length follower.node.chain.digests) follower.waiting)
    none_log now disk old = subst (λ (o : Option Waiting). KeepsLogOf now disk old old o)
        (sym (none_due (length follower.node.chain.digests) follower.waiting none)) refl

    pub none_waiting : follower.waiting ≡ waiting_without follower.waiting
        (position_of (length follower.node.chain.digests) follower.waiting)
    none_waiting = sym (ap (waiting_without follower.waiting) none)

    pub none_turn : IsFurtherTurn follower.node
        (due_in (length follower.node.chain.digests) follower.waiting) follower.node None
    none_turn = subst
        (λ (o : Option Waiting). IsFurtherTurn follower.node o follower.node None)
        (sym (none_due (length follower.node.chain.digests) follower.waiting none)) refl

    pub none_any : false
        ≡ is_some (position_of (length follower.node.chain.digests) follower.waiting)
    none_any = sym (ap (λ (o : Option ℕ). is_some o) none)

module _ (follower rest : FollowerState) (at : ℕ) (block : Waiting)
    (taken : IsTakenOut follower rest at block) (bytes : List ℕ) (bytes_as : bytes ≡ block.bytes)
  where
    module _ (disk : Option DiskState) (state : State) (is : IsFollowerOf follower disk state)
      where
        pub rest_of : IsFollowerOf rest disk (without state at)
        rest_of = subst (λ (f : FollowerState). IsFollowerOf f disk (without state at))
            (sym taken.rest_as) (rest_is follower disk state is at)

        step_is : further_turn stored_placement state
            ≡ Some (decided stored_placement (without state at) block.index bytes)
        step_is = one_further follower disk state is at block taken.there taken.here
            ∙ ap (λ (b : List ℕ). Some
            (decided stored_placement (without state at) block.index b)) (sym bytes_as)

        pub one_made : (new : Option DiskState) (result : Answer)
            → HasMade new state.blocks
            (decided stored_placement (without state at) block.index bytes) result
            → HasMadeAny new state (further_turn stored_placement state) (made result)
        one_made new result has = subst
            (λ (s : Option Step). HasMadeAny new state s (made result)) (sym step_is)
            (any_made new state
            (decided stored_placement (without state at) block.index bytes) result has)

        pub one_images : {D : Type 0} (now : D → ℕ) (shown : D → ℕ → Option DiskState)
            (old new : D)
            → Keeps now shown old new (IsTurnImage (without state at)
            (decided stored_placement (without state at) block.index bytes).state)
            → Keeps now shown old new
            (IsTurnImage state (state_after state (further_turn stored_placement state)))
        one_images now shown old new keeps = subst
            (λ (s : Option Step). Keeps now shown old new
            (IsTurnImage state (state_after state s))) (sym step_is) keeps

    pub one_log : {D : Type 0} (now : D → ℕ) (disk : D → ℕ → Option DiskState) (old new : D)
        → KeepsLog now disk old new bytes
        → KeepsLogOf now disk old new
        (due_in (length follower.node.chain.digests) follower.waiting)
    one_log now disk old new keeps = subst
        (λ (o : Option Waiting). KeepsLogOf now disk old new o)
        (sym (one_due (length follower.node.chain.digests) follower.waiting at block taken.there
        taken.here))
        (subst (λ (b : List ℕ). KeepsLog now disk old new b) bytes_as keeps)

    pub one_turn : (result : Answer)
        → IfOk result (λ done. IsDecided rest.node block.index bytes done.0.node done.1)
        → IfOk (made result) (λ done. IsFurtherTurn follower.node
        (due_in (length follower.node.chain.digests) follower.waiting) done.0.node done.1)
    one_turn (Ok done) is = subst
        (λ (o : Option Waiting). IsFurtherTurn follower.node o done.0.node (Some done.1))
        (sym (one_due (length follower.node.chain.digests) follower.waiting at block taken.there
        taken.here))
        (subst (λ (b : List ℕ). IsDecided follower.node block.index b done.0.node done.1)
        bytes_as
        (subst (λ (f : FollowerState).
        IsDecided f.node block.index bytes done.0.node done.1) taken.rest_as is))
    one_turn (Err fault) is = tt

    pub one_waiting : (result : Answer) → IfOk result (λ done. done.0.waiting ≡ rest.waiting)
        → IfOk (made result) (λ done. done.0.waiting ≡ waiting_without follower.waiting
        (position_of (length follower.node.chain.digests) follower.waiting))
    one_waiting (Ok done) is = is ∙ ap (λ (f : FollowerState). f.waiting) taken.rest_as
        ∙ sym (ap (waiting_without follower.waiting) taken.there)
    one_waiting (Err fault) is = tt
