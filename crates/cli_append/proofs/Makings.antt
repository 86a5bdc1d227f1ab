-- What the turns of a delivery do, whatever is known of the devices.
use Rattle.std.proofs.Common.{◌≡◌, ℕ, true, false, List, length, refl, sym}
use Rattle.std.proofs.Common.{◌∙◌, ap, subst}
use Rattle.std.specs.Prelude.{Option, Some, None, is_some, Result, Ok, Err, IsErrOf}
use Rattle.lc_base.specs.Faults.{HasCause}
use Rattle.lc_io.specs.Disk.{DiskState}
use Rattle.lc_io.specs.Outside.{Tell}
use Rattle.disk_model.specs.Disk.{Keeps, Rests, content_of}
use Rattle.disk_model.specs.Leaving.{LeavesWire}
use Rattle.disk_model.proofs.Calls.{stay_keeps}
use Rattle.lc_io.specs.Scratch.{ScratchState, is_known, Serves}
use Rattle.lc_io.proofs.Retaining.{retains_refl, retains_trans}
use Rattle.block_codec.specs.Reading.{block_in}
use Rattle.block_log.specs.Log.{LogState, Agrees, next_in_log}
use Rattle.chain_exec.specs.Compiled.{compiled_in}
use Rattle.cli_promises.specs.recovery.Node.{IsReady, stored_placement}
use Rattle.cli_promises.specs.Appending.{IsKnown, Grows}
use Rattle.cli_promises.specs.declared.ending.RunStop.{RunStop}
use Rattle.cli_promises.specs.declared.ending.RunStop.TheVariants as stops
use Rattle.cli_append.proofs.ByLog.{log_begun, log_taken, log_more}
use Rattle.cli_append.proofs.Causes.{carried, kept, unblamed}
use Rattle.cli_append.proofs.Frames.{content_known}
use Rattle.cli_append.proofs.Upgraded.{none_blamed}
use Rattle.follow_core.specs.Follower.{FollowerState, IsFollowerOf, IsTurnImage, HasMadeAny}
use Rattle.follow_core.specs.Turning.{adds, KeepsLogOf}
use Rattle.follow_core.specs.declared.turn.Turn.{Turn}
use Rattle.follow_core.specs.declared.turn.FollowFault.{FollowFault}
use Rattle.follow_core.specs.declared.turn.FollowFault.TheVariants as faults
use Rattle.follower_steps.specs.declared.waiting.Waiting.{Waiting}
use Rattle.follower_steps.specs.Steps.{State, Step, first_turn, further_turn}
use Rattle.follower_steps.specs.Steps.{position_of}
use Rattle.follower_steps.specs.Events.{state_after}
use Rattle.follow_core.proofs.Drained.{none_further}
use Rattle.cli_promises.specs.Following.{Followed, nothing_done, after_step, after_any}
use Rattle.cli_promises.specs.Following.{after_all, all_acknowledged, after_frame}
use Rattle.cli_append.specs.FollowSteps.{turn_text}
use Rattle.cli_append.specs.Steps.{TellsLine}
use Rattle.cli_append.specs.FollowSteps.{Follows, Makes, stop_of}
use Rattle.cli_append.proofs.Done.{Grown, more_done, after_any_from, after_all_from, grown_none}
use Rattle.cli_append.proofs.Done.{grown_more, grown_first, grown_any}
use Rattle.cli_append.proofs.Joined.{then_follows, stop_follows, none_follows, not_followed}
use Rattle.cli_append.proofs.Joined.{acknowledged_follows}
use Rattle.cli_append.proofs.Made.{all_further, none_left, none_made, told_by, if_told, blames_told}
use Rattle.cli_append.proofs.Made.{told_blames, any_follows, none_any, fault_follows}

not_some : (found : Option ℕ) → is_some found ≡ false → found ≡ None
not_some None is = refl
not_some (Some at) is = absurd (cc is)

-- ---- who is blamed

disk_stop : (fault : FollowFault) → stop_of fault ≡ stops.DiskFault → fault ≡ faults.DiskFault
disk_stop faults.DiskFault is = refl
disk_stop faults.ScratchFault is = absurd (cc is)
disk_stop faults.Memory is = absurd (cc is)

scratch_stop : (fault : FollowFault) → stop_of fault ≡ stops.ScratchFault
    → fault ≡ faults.ScratchFault
scratch_stop faults.DiskFault is = absurd (cc is)
scratch_stop faults.ScratchFault is = refl
scratch_stop faults.Memory is = absurd (cc is)

untold_stop : (fault : FollowFault) → stop_of fault ≡ stops.Untold → ⊥
untold_stop faults.DiskFault is = absurd (cc is)
untold_stop faults.ScratchFault is = absurd (cc is)
untold_stop faults.Memory is = absurd (cc is)

unreadable_stop : (fault : FollowFault) → stop_of fault ≡ stops.Unreadable → ⊥
unreadable_stop faults.DiskFault is = absurd (cc is)
unreadable_stop faults.ScratchFault is = absurd (cc is)
unreadable_stop faults.Memory is = absurd (cc is)

-- a fault, and why the command stops then
same_fault : {T : Type 0} (fault wanted : FollowFault) (stop : RunStop)
    → stop_of wanted ≡ stop → IsErrOf {T = T} (Err fault) wanted
    → IsErrOf {T = FollowerState} (Err (stop_of fault)) stop
same_fault fault wanted stop is same =
    let one : fault ≡ wanted = cc same in
    ap Err (ap stop_of one ∙ is)

module _ {D S : Type 0} (now : D → ℕ) (disk : D → ℕ → Option DiskState)
    (told : D → Option (List Tell)) (disk_faults wire_faults : D → ℕ) (scratch : S → ScratchState)
    (scratch_faults : S → ℕ) where
  abbrev Does : D × S → FollowerState → (State → Followed) → D × S
      → Result FollowerState RunStop → Type 0
  Does old follower done_from new result = Makes now disk told disk_faults wire_faults scratch
      scratch_faults old follower done_from new result

  abbrev any_from : (State → Option Step) → State → Followed
  any_from step_in state = after_any compiled_in (nothing_done state) (step_in state)

  -- ---- one turn

  -- what a crash may leave in a turn, if the disk is known
  turn_images : (old mid : D) (state next : State)
      → ((content : List ℕ) → content_of (disk old (now old)) ≡ Some content → Keeps now disk old
      mid (IsTurnImage state next))
      → IsKnown (disk old (now old)) → Keeps now disk old mid (IsTurnImage state next)
  turn_images old mid state next images is_told =
      let c = content_known (disk old (now old)) is_told in images c.0 c.1

  module _ (old mid : D) (before after : S) (follower : FollowerState)
      (step_in : State → Option Step)
      (grown : (state : State) → Grown state (any_from step_in state))
      (images : is_known (scratch before) ≡ true → (state : State) (content : List ℕ)
      → IsFollowerOf follower (disk old (now old)) state
      → content_of (disk old (now old)) ≡ Some content
      → Keeps now disk old mid (IsTurnImage state (state_after state (step_in state))))
      (log : (content : List ℕ) → content_of (disk old (now old)) ≡ Some content
      → Keeps now disk old mid (Grows next_in_log content))
      (wire : LeavesWire told wire_faults old mid)
    where
      -- a turn was made, and its line printed, or its first bytes
      pub told_makes : {A B : Type 0} (new : D) (next : FollowerState) (turn : Turn)
          (result : Result (Unit {0}) RunStop)
          → (is_known (scratch before) ≡ true → (state : State)
          → IsFollowerOf follower (disk old (now old)) state
          → HasMadeAny (disk mid (now mid)) state (step_in state) (Ok (next, Some turn)))
          → IsReady next.node (disk mid (now mid)) (scratch after)
          → (adds turn ≡ false → mid ≡ old)
          → HasCause (disk_faults old) (disk_faults mid) A → (A → ⊥)
          → Serves scratch scratch_faults before after B → (B → ⊥)
          → TellsLine now disk told disk_faults wire_faults mid new (turn_text turn) result
          → Does (old, before) follower (any_from step_in) (new, after) (told_by next result)
      told_makes {A} {B} new next turn result answer ready untouched cause none serves none_there
          tells = record {
            follows = λ known state is. any_follows now disk told disk_faults wire_faults old mid
                new state (step_in state) turn next result (grown state)
                (turn_images old mid state (state_after state (step_in state))
                (λ content there. images known state content is there)) wire.told untouched
                (answer known state is) tells;
            log_goes_on = λ content there. stay_keeps now disk old mid new
                (Grows next_in_log content) (log content there) tells.stays;
            ready = if_told next (λ f. IsReady f.node (disk new (now new)) (scratch after)) result
                (subst (λ (o : Option DiskState). IsReady next.node o (scratch after))
                (sym tells.stays.last) ready);
            retains = serves.retains;
            disk_fault = carried (disk_faults old) (disk_faults mid) (disk_faults new)
                (IsErrOf result stops.DiskFault) (IsErrOf (told_by next result) stops.DiskFault)
                (unblamed (disk_faults old) (disk_faults mid) A cause none) tells.disk_fault
                (told_blames next result stops.DiskFault)
                (blames_told next result stops.DiskFault);
            scratch_fault = kept (scratch_faults before) (scratch_faults after)
                (scratch_faults after) B (IsErrOf (told_by next result) stops.ScratchFault) refl
                serves.cause (λ b. absurd (none_there b))
                (λ b. absurd (tells.keeps (blames_told next result stops.ScratchFault b)));
            untold = carried (wire_faults old) (wire_faults mid) (wire_faults new)
                (IsErrOf result stops.Untold) (IsErrOf (told_by next result) stops.Untold)
                wire.faults tells.untold (told_blames next result stops.Untold)
                (blames_told next result stops.Untold);
            reads = λ b. tells.reads (blames_told next result stops.Unreadable b);
          }

      -- a device failed, or memory ran out
      pub fault_makes : {T : Type 0} (fault : FollowFault) (stop : RunStop) → stop ≡ stop_of fault
          → HasCause (disk_faults old) (disk_faults mid)
          (IsErrOf {T = T} (Err fault) faults.DiskFault)
          → Serves scratch scratch_faults before after
          (IsErrOf {T = T} (Err fault) faults.ScratchFault)
          → Does (old, before) follower (any_from step_in) (mid, after) (Err stop)
      fault_makes {T} fault stop stop_is cause serves =
          let result : Result FollowerState RunStop = Err (stop_of fault) in
          subst (λ (s : RunStop). Does (old, before) follower (any_from step_in) (mid, after)
          (Err s)) (sym stop_is) (record {
            follows = λ known state is. fault_follows now disk told old mid state (step_in state)
                (stop_of fault) (grown state)
                (turn_images old mid state (state_after state (step_in state))
                (λ content there. images known state content is there)) wire.told;
            log_goes_on = log;
            ready = tt;
            retains = serves.retains;
            disk_fault = kept (disk_faults old) (disk_faults mid) (disk_faults mid)
                (IsErrOf {T = T} (Err fault) faults.DiskFault) (IsErrOf result stops.DiskFault)
                refl cause (same_fault fault faults.DiskFault stops.DiskFault refl)
                (λ b. ap Err (disk_stop fault (cc b)));
            scratch_fault = kept (scratch_faults before) (scratch_faults after)
                (scratch_faults after) (IsErrOf {T = T} (Err fault) faults.ScratchFault)
                (IsErrOf result stops.ScratchFault) refl serves.cause
                (same_fault fault faults.ScratchFault stops.ScratchFault refl)
                (λ b. ap Err (scratch_stop fault (cc b)));
            untold = none_blamed (wire_faults old) (wire_faults mid) (IsErrOf result stops.Untold)
                wire.faults (λ b. untold_stop fault (cc b));
            reads = λ b. unreadable_stop fault (cc b);
          })

  -- what a crash may leave of the log by itself, if a block may have been taken out
  pub log_any : (old new : D) (log : LogState) (due : Option Waiting)
      → Rests (disk old (now old)) (Agrees log) → KeepsLogOf now disk old new due
      → (content : List ℕ) → content_of (disk old (now old)) ≡ Some content
      → Keeps now disk old new (Grows next_in_log content)
  log_any old new log None rests same content there =
      subst (λ (m : D). Keeps now disk old m (Grows next_in_log content)) (sym same)
      (log_begun now disk old log rests content there)
  log_any old new log (Some block) rests images content there =
      log_taken now disk old new log content (block_in block.bytes) rests there images

  -- there was no further turn
  pub none_makes : {A B : Type 0} (old mid : D) (before after : S) (follower next : FollowerState)
      (step_in : State → Option Step)
      → (is_known (scratch before) ≡ true → (state : State)
      → IsFollowerOf follower (disk old (now old)) state
      → HasMadeAny (disk mid (now mid)) state (step_in state) (Ok (next, None)))
      → Rests (disk old (now old)) (Agrees follower.node.log)
      → IsReady next.node (disk mid (now mid)) (scratch after) → mid ≡ old
      → LeavesWire told wire_faults old mid → HasCause (disk_faults old) (disk_faults mid) A
      → (A → ⊥) → Serves scratch scratch_faults before after B → (B → ⊥)
      → Does (old, before) follower (any_from step_in) (mid, after) (Ok next)
  none_makes {A} {B} old mid before after follower next step_in answer rests ready same wire cause
      none serves none_there = record {
        follows = λ known state is. none_any now disk told old mid state (step_in state) next same
            (answer known state is);
        log_goes_on = λ content there. subst (λ (m : D). Keeps now disk old m
            (Grows next_in_log content)) (sym same)
            (log_begun now disk old follower.node.log rests content there);
        ready = ready;
        retains = serves.retains;
        disk_fault = none_blamed (disk_faults old) (disk_faults mid)
            (IsErrOf {T = FollowerState} (Ok next) stops.DiskFault)
            (unblamed (disk_faults old) (disk_faults mid) A cause none) (λ b. absurd (cc b));
        scratch_fault = none_blamed (scratch_faults before) (scratch_faults after)
            (IsErrOf {T = FollowerState} (Ok next) stops.ScratchFault)
            (unblamed (scratch_faults before) (scratch_faults after) B serves.cause none_there)
            (λ b. absurd (cc b));
        untold = none_blamed (wire_faults old) (wire_faults mid)
            (IsErrOf {T = FollowerState} (Ok next) stops.Untold) wire.faults
            (λ b. absurd (cc b));
        reads = λ b. absurd (cc b);
      }

  -- ---- one call after another

  then_cause : {A B : Type 0} (before mid last : ℕ) → HasCause before mid A → (A → ⊥)
      → HasCause mid last B → HasCause before last B
  then_cause {A} {B} before mid last first none second = carried before mid last B B
      (unblamed before mid A first none) second (λ b. b) (λ b. b)

  then_makes : (old mid new : D × S) (follower next : FollowerState)
      (one_from two_from : State → Followed) (result : Result FollowerState RunStop)
      → Does old follower one_from mid (Ok next)
      → ((state : State) → Grown state (one_from state))
      → Does mid next two_from new result
      → Does old follower (λ state. more_done (one_from state) (two_from (one_from state).state))
      new result
  then_makes old mid new follower next one_from two_from result first grown second = record {
    follows = λ known state is.
        let one = first.follows known state is in
        then_follows now disk told old.0 mid.0 new.0 state (one_from state)
        (two_from (one_from state).state) next (λ f. f) result one (grown state)
        (second.follows (first.retains.known ∙ known) (one_from state).state one.answer);
    log_goes_on = λ content there. log_more now disk old.0 mid.0 new.0 next.node.log content there
        (first.log_goes_on content there) first.ready.log second.log_goes_on;
    ready = second.ready;
    retains = retains_trans (scratch old.1) (scratch mid.1) (scratch new.1) first.retains
        second.retains;
    disk_fault = then_cause (disk_faults old.0) (disk_faults mid.0) (disk_faults new.0)
        first.disk_fault (λ b. absurd (cc b)) second.disk_fault;
    scratch_fault = then_cause (scratch_faults old.1) (scratch_faults mid.1)
        (scratch_faults new.1) first.scratch_fault (λ b. absurd (cc b)) second.scratch_fault;
    untold = then_cause (wire_faults old.0) (wire_faults mid.0) (wire_faults new.0)
        first.untold (λ b. absurd (cc b)) second.untold;
    reads = second.reads;
  }

  -- the same, by what it does from the states that the follower can be in
  other_follows : (old new : D × S) (follower : FollowerState)
      (one_from two_from : State → Followed) (result : Result FollowerState RunStop)
      → Does old follower one_from new result
      → (is_known (scratch old.1) ≡ true → (state : State)
      → IsFollowerOf follower (disk old.0 (now old.0)) state
      → Follows now disk told old.0 new.0 state (one_from state) (λ f. f) result
      → Follows now disk told old.0 new.0 state (two_from state) (λ f. f) result)
      → Does old follower two_from new result
  other_follows old new follower one_from two_from result makes other = record {
    follows = λ known state is. other known state is (makes.follows known state is);
    log_goes_on = makes.log_goes_on;
    ready = makes.ready;
    retains = makes.retains;
    disk_fault = makes.disk_fault;
    scratch_fault = makes.scratch_fault;
    untold = makes.untold;
    reads = makes.reads;
  }

  -- a part of what was to be done
  stop_makes : (old new : D × S) (follower : FollowerState) (one_from two_from : State → Followed)
      (stop : RunStop) → Does old follower one_from new (Err stop)
      → ((state : State) → (rest : Followed) × (two_from state ≡ more_done (one_from state) rest))
      → Does old follower two_from new (Err stop)
  stop_makes old new follower one_from two_from stop makes rests =
      other_follows old new follower one_from two_from (Err stop) makes
      (λ known state is one.
      let rest = rests state in
      subst (λ (d : Followed). Follows {T = FollowerState} now disk told old.0 new.0 state d
      (λ f. f) (Err stop)) (sym rest.1)
      (stop_follows now disk told old.0 new.0 state (one_from state) rest.0 (λ f. f) (λ f. f) stop
      one))

  -- ---- all further turns

  abbrev next_from : State → Followed
  next_from state = any_from (further_turn stored_placement) state

  abbrev all_from : State → Followed
  all_from state = after_all compiled_in stored_placement (nothing_done state)

  -- what was done so far, after which all further turns are those of the first state
  pub record Progress (old new : D × S) (first follower : FollowerState) : Type 0 where
    pub so_far : State → Followed
    pub grown : (state : State) → Grown state (so_far state)
    pub makes : Does old first so_far new (Ok follower)
    pub all_are : (state : State) → all_from state ≡ after_all compiled_in stored_placement
        (so_far state)

  -- nothing is done yet
  none_done : (old : D × S) (follower : FollowerState)
      → IsReady follower.node (disk old.0 (now old.0)) (scratch old.1)
      → Does old follower nothing_done old (Ok follower)
  none_done old follower ready = record {
    follows = λ known state is. none_follows now disk told old.0 state follower is;
    log_goes_on = log_begun now disk old.0 follower.node.log ready.log;
    ready = ready;
    retains = retains_refl (scratch old.1);
    disk_fault = none_blamed (disk_faults old.0) (disk_faults old.0)
        (IsErrOf {T = FollowerState} (Ok follower) stops.DiskFault) refl (λ b. absurd (cc b));
    scratch_fault = none_blamed (scratch_faults old.1) (scratch_faults old.1)
        (IsErrOf {T = FollowerState} (Ok follower) stops.ScratchFault) refl (λ b. absurd (cc b));
    untold = none_blamed (wire_faults old.0) (wire_faults old.0)
        (IsErrOf {T = FollowerState} (Ok follower) stops.Untold) refl (λ b. absurd (cc b));
    reads = λ b. absurd (cc b);
  }

  pub begun : (old : D × S) (follower : FollowerState)
      → IsReady follower.node (disk old.0 (now old.0)) (scratch old.1)
      → Progress old old follower follower
  begun old follower ready = record {
    so_far = nothing_done;
    grown = grown_none;
    makes = none_done old follower ready;
    all_are = λ state. refl;
  }

  -- where no block is due, there is no further turn
  pub none_due : (old : D × S) (follower : FollowerState)
      → IsReady follower.node (disk old.0 (now old.0)) (scratch old.1)
      → is_some (position_of (length follower.node.chain.digests) follower.waiting) ≡ false
      → Does old follower all_from old (Ok follower)
  none_due old follower ready none =
      other_follows old old follower nothing_done all_from (Ok follower)
      (none_done old follower ready)
      (λ known state is.
      let no_turn = none_further follower (disk old.0 (now old.0)) state is
      (not_some (position_of (length follower.node.chain.digests) follower.waiting) none) in
      subst (λ (d : Followed). Follows now disk told old.0 old.0 state d (λ f. f) (Ok follower))
      (sym (none_left compiled_in stored_placement (nothing_done state) no_turn)))

  -- what is done with one further turn, and then all others
  all_then : (so_far : State → Followed) → ((state : State) → all_from state
      ≡ after_all compiled_in stored_placement (so_far state))
      → (state : State) → all_from state ≡ after_all compiled_in stored_placement
      (more_done (so_far state) (next_from (so_far state).state))
  all_then so_far all_are state =
      all_are state ∙ all_further compiled_in stored_placement (so_far state)
      ∙ ap (after_all compiled_in stored_placement) (after_any_from compiled_in (so_far state)
      (further_turn stored_placement (so_far state).state))

  -- one further turn
  pub goes_on : (old mid new : D × S) (first follower next : FollowerState)
      → Progress old mid first follower → Does mid follower next_from new (Ok next)
      → Progress old new first next
  goes_on old mid new first follower next p turn = record {
    so_far = λ state. more_done (p.so_far state) (next_from (p.so_far state).state);
    grown = λ state. grown_more state (p.so_far state) (next_from (p.so_far state).state)
        (p.grown state) (grown_any (p.so_far state).state);
    makes = then_makes old mid new first follower p.so_far next_from (Ok next) p.makes p.grown
        turn;
    all_are = all_then p.so_far p.all_are;
  }

  -- a further turn was stopped
  pub stops_at : (old mid new : D × S) (first follower : FollowerState) (stop : RunStop)
      → Progress old mid first follower → Does mid follower next_from new (Err stop)
      → Does old first all_from new (Err stop)
  stops_at old mid new first follower stop p turn =
      let so_far : State → Followed = λ state. more_done (p.so_far state)
      (next_from (p.so_far state).state) in
      stop_makes old new first so_far all_from stop
      (then_makes old mid new first follower p.so_far next_from (Err stop) p.makes p.grown turn)
      (λ state. (
        all_from (so_far state).state,
        all_then p.so_far p.all_are state
            ∙ after_all_from compiled_in stored_placement (so_far state),
      ))

  -- there is no further turn
  pub ends_at : (old mid new : D × S) (first follower next : FollowerState)
      → Progress old mid first follower → Does mid follower next_from new (Ok next)
      → (is_known (scratch mid.1) ≡ true → (state : State)
      → IsFollowerOf follower (disk mid.0 (now mid.0)) state
      → HasMadeAny (disk new.0 (now new.0)) state (further_turn stored_placement state)
      (Ok (next, None)))
      → Does old first all_from new (Ok next)
  ends_at old mid new first follower next p turn answer =
      other_follows old new first
      (λ state. more_done (p.so_far state) (next_from (p.so_far state).state)) all_from (Ok next)
      (then_makes old mid new first follower p.so_far next_from (Ok next) p.makes p.grown turn)
      (λ known state is done.
      let one = p.makes.follows known state is in
      let none = none_made (disk new.0 (now new.0)) (p.so_far state).state
      (further_turn stored_placement (p.so_far state).state) next
      (answer (p.makes.retains.known ∙ known) (p.so_far state).state one.answer) in
      subst (λ (d : Followed). Follows now disk told old.0 new.0 state d (λ f. f) (Ok next))
      (sym (after_any_from compiled_in (p.so_far state)
      (further_turn stored_placement (p.so_far state).state))
      ∙ ap (after_any compiled_in (p.so_far state)) none.0
      ∙ sym (none_left compiled_in stored_placement (p.so_far state) none.0)
      ∙ sym (p.all_are state)) done)

  -- ---- a frame

  abbrev first_from : ℕ → List ℕ → State → Followed
  first_from index bytes state = after_step compiled_in (nothing_done state)
      (first_turn stored_placement state index bytes)

  abbrev frame_from : ℕ → List ℕ → State → Followed
  frame_from index bytes state = after_frame compiled_in stored_placement (nothing_done state)
      index bytes

  -- all blocks that are held were acknowledged
  acknowledges : (old new : D × S) (follower : FollowerState) (done_from : State → Followed)
      (result : Result FollowerState RunStop) → Does old follower done_from new result
      → Does old follower (λ state. all_acknowledged (done_from state)) new result
  acknowledges old new follower done_from result makes =
      other_follows old new follower done_from (λ state. all_acknowledged (done_from state)) result
      makes (λ known state is one. acknowledged_follows now disk told old.0 new.0 state
      (done_from state) result one)

  -- the first turn, and all further ones
  pub delivers : (old mid new : D × S) (follower next : FollowerState) (index : ℕ)
      (bytes frame : List ℕ) (result : Result FollowerState RunStop) → bytes ≡ frame
      → Does old follower (first_from index bytes) mid (Ok next)
      → Does mid next all_from new result → Does old follower (frame_from index frame) new result
  delivers old mid new follower next index bytes frame result same first all =
      subst (λ (b : List ℕ). Does old follower (frame_from index b) new result) same
      (acknowledges old new follower (λ state. after_all compiled_in stored_placement
      (first_from index bytes state)) result
      (other_follows old new follower
      (λ state. more_done (first_from index bytes state)
      (all_from (first_from index bytes state).state))
      (λ state. after_all compiled_in stored_placement (first_from index bytes state)) result
      (then_makes old mid new follower next (first_from index bytes) all_from result first
      (λ state. grown_first state index bytes) all)
      (λ known state is. subst (λ (d : Followed). Follows now disk told old.0 new.0 state d
      (λ f. f) result) (sym (after_all_from compiled_in stored_placement
      (first_from index bytes state))))))

  -- the first turn was stopped
  pub stops_first : (old new : D × S) (follower : FollowerState) (index : ℕ)
      (bytes frame : List ℕ) (stop : RunStop) → bytes ≡ frame
      → Does old follower (first_from index bytes) new (Err stop)
      → Does old follower (frame_from index frame) new (Err stop)
  stops_first old new follower index bytes frame stop same first =
      subst (λ (b : List ℕ). Does old follower (frame_from index b) new (Err stop)) same
      (acknowledges old new follower (λ state. after_all compiled_in stored_placement
      (first_from index bytes state)) (Err stop)
      (stop_makes old new follower (first_from index bytes)
      (λ state. after_all compiled_in stored_placement (first_from index bytes state)) stop first
      (λ state. (
        all_from (first_from index bytes state).state,
        after_all_from compiled_in stored_placement (first_from index bytes state),
      ))))

  -- memory ran out before the first turn
  pub not_begun : (old : D × S) (follower : FollowerState) (done_from : State → Followed)
      → IsReady follower.node (disk old.0 (now old.0)) (scratch old.1)
      → Does old follower done_from old (Err stops.Memory)
  not_begun old follower done_from ready = record {
    follows = λ known state is. not_followed now disk told old.0 state (done_from state) follower
        (λ f. f) stops.Memory is;
    log_goes_on = log_begun now disk old.0 follower.node.log ready.log;
    ready = tt;
    retains = retains_refl (scratch old.1);
    disk_fault = none_blamed (disk_faults old.0) (disk_faults old.0)
        (IsErrOf {T = FollowerState} (Err stops.Memory) stops.DiskFault) refl
        (λ b. absurd (cc b));
    scratch_fault = none_blamed (scratch_faults old.1) (scratch_faults old.1)
        (IsErrOf {T = FollowerState} (Err stops.Memory) stops.ScratchFault) refl
        (λ b. absurd (cc b));
    untold = none_blamed (wire_faults old.0) (wire_faults old.0)
        (IsErrOf {T = FollowerState} (Err stops.Memory) stops.Untold) refl (λ b. absurd (cc b));
    reads = λ b. absurd (cc b);
  }
