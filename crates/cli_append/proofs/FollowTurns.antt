-- What carries through the frames of `follow`, from the first one to the end.
use Rattle.std.proofs.Common.{◌≡◌, ℕ, ◌+◌, ◌≤◌, true, List, [], ◌∷◌, length, sym, ◌∙◌}
use Rattle.std.proofs.Common.{ap, subst, arith}
use Rattle.std.specs.Prelude.{Option, Some, Result, Ok, Err, is_ok, IfOk, IsErrOf}
use Rattle.lc_base.specs.Faults.{HasCause}
use Rattle.lc_io.specs.Disk.{DiskState, Stays}
use Rattle.lc_io.specs.Outside.{Tell}
use Rattle.disk_model.specs.Disk.{Keeps, content_of}
use Rattle.lc_io.specs.Scratch.{ScratchState, is_known, Retains}
use Rattle.lc_io.proofs.Retaining.{retains_refl, retains_trans}
use Rattle.block_codec.specs.declared.limits.TheConstants.{MAX_FRAMES}
use Rattle.block_log.specs.Log.{next_in_log}
use Rattle.chain_exec.specs.Compiled.{compiled_in}
use Rattle.chain_input.specs.Folding.{Whole, Refused}
use Rattle.chain_input.specs.Taking.{TurnRule, At, HasTurn, TakesInput, EndsAfter, RefusesFrame}
use Rattle.chain_input.specs.declared.cause.Cause.{Cause}
use Rattle.chain_input.specs.declared.cause.Cause.TheVariants as causes
use Rattle.chain_input.specs.declared.taking.Turn.{Turn as FrameTurn}
use Rattle.chain_input.specs.declared.taking.Turn.TheVariants as frame_turns
use Rattle.chain_input.specs.declared.taking.InputEnd.{InputEnd}
use Rattle.chain_input.specs.declared.taking.InputEnd.TheVariants as inputs
use Rattle.chain_input.specs.declared.taking.InputStop.{InputStop}
use Rattle.chain_input.specs.declared.taking.InputStop.TheVariants as stopped
use Rattle.chain_input.proofs.Taken.{carried, at_end, blames}
use Rattle.cli_promises.specs.recovery.Node.{IsReady, next_in_chain, stored_placement}
use Rattle.cli_promises.specs.Promises.{Line, plain, Telling}
use Rattle.cli_promises.specs.cli_lines.Lines.{refused_line}
use Rattle.cli_promises.specs.Appending.{IsKnown, GoesFrom, Grows, fold_end}
use Rattle.cli_promises.specs.declared.ending.RunEnd.{RunEnd}
use Rattle.cli_promises.specs.declared.ending.RunEnd.TheVariants as ends
use Rattle.cli_promises.specs.declared.ending.RunStop.{RunStop}
use Rattle.cli_promises.specs.declared.ending.RunStop.TheVariants as stops
use Rattle.cli_append.proofs.ByLog.{log_begun, log_more}
use Rattle.follow_core.specs.Follower.{FollowerState, IsFollowerOf}
use Rattle.follower_steps.specs.Steps.{State}
use Rattle.cli_append.specs.declared.follow_taking.Following.{Following}
use Rattle.cli_promises.specs.FollowLines.{follow_line}
use Rattle.cli_promises.specs.Following.{Followed, FollowFold, FollowsAll, nothing_done}
use Rattle.cli_promises.specs.Following.{after_frame}
use Rattle.cli_promises.specs.Following.{follow_from}
use Rattle.cli_append.specs.FollowSteps.{chain_held, Follows, FollowsFrame}
use Rattle.cli_append.proofs.Done.{Grown, grown_none, grown_more, grown_frame}
use Rattle.cli_append.proofs.Done.{after_frame_from}
use Rattle.cli_append.proofs.Joined.{then_follows, none_follows}
use Rattle.cli_append.proofs.Answered.{took, not_refused, stopped_by, turn_blames}
use Rattle.cli_append.proofs.Folded.{Leads, leads_first, leads_on, leads_longer}
use Rattle.cli_append.proofs.Folded.{whole_so, refused_so, within_longer}
use Rattle.cli_append.proofs.Ended.{counts_held, then_line, then_stop, stopped_then, goes_from}

-- the fold of all frames of an input, from this state on
abbrev pub fold_all : State → List ℕ → FollowFold
fold_all state input =
    follow_from compiled_in stored_placement (MAX_FRAMES + 1) (nothing_done state) input

-- what a frame does from what was done on
abbrev frame_done : Followed → ℕ → List ℕ → Followed
frame_done done index frame =
    after_frame compiled_in stored_placement (nothing_done done.state) index frame

-- how it ended, as an end of the fold
whole_end : (result : Result RunEnd RunStop) → IfOk result (λ answer. answer ≡ ends.Whole)
    → IfOk result (λ answer. fold_end answer ≡ Whole)
whole_end (Ok answer) is = ap fold_end is
whole_end (Err stop) is = tt

refused_end : (frame count : ℕ) (cause : Cause) (result : Result RunEnd RunStop)
    → frame ≡ count → IfOk result (λ answer. answer ≡ ends.Refused frame cause)
    → IfOk result (λ answer. fold_end answer ≡ Refused count cause)
refused_end frame count cause (Ok answer) number is =
    ap fold_end is ∙ ap (λ (n : ℕ). Refused n cause) number
refused_end frame count cause (Err stop) number is = tt

-- what was done by a follower was done by the same one, by another name
pub same_follower : {D S : Type 0} (rule : TurnRule (D × S) Following RunStop)
    (left : Option (List ℕ)) (taker : D × S) (made follower : FollowerState)
    (after : Option (List ℕ)) (end : D × S)
    (result : Result (InputEnd Following) (InputStop RunStop)) → made ≡ follower
    → TakesInput rule (record {
      left = left;
      taker = taker;
      chain = record { follower = made; next = 0 };
    }) after end result
    → TakesInput rule (record {
      left = left;
      taker = taker;
      chain = record { follower = follower; next = 0 };
    }) after end result
same_follower rule left taker made follower after end result same takes =
    subst (λ (f : FollowerState). TakesInput rule (record {
      left = left;
      taker = taker;
      chain = record { follower = f; next = 0 };
    }) after end result) same takes

-- what stopped the taker stops the command, and is blamed for the same
pub taker_blames : (before now : ℕ) (stop other : RunStop)
    → HasCause before now (IsErrOf {T = InputEnd Following} (Err (stopped.Taker stop))
    (stopped.Taker other))
    → HasCause before now (IsErrOf {T = RunEnd} (Err stop) other)
taker_blames before now stop other cause = record {
  later = cause.later;
  failed = λ blames.
      let is : stop ≡ other = cc blames in
      cause.failed (ap (λ (s : RunStop). Err (stopped.Taker s)) is);
  told = λ differ.
      let is : stop ≡ other = cc (cause.told differ) in
      ap (λ (s : RunStop). Err s) is;
}

-- a stop of the taker is no fault of the source
pub source_unblamed : (before now : ℕ) (stop : RunStop)
    → HasCause before now (IsErrOf {T = InputEnd Following} (Err (stopped.Taker stop))
    stopped.Fault)
    → (IsErrOf {T = InputEnd Following} (Err (stopped.Taker stop))
    (stopped.Taker stops.Unreadable) → ⊥)
    → HasCause before now (IsErrOf {T = RunEnd} (Err stop) stops.Unreadable)
source_unblamed before now stop cause none = record {
  later = cause.later;
  failed = λ blames.
      let is : stop ≡ stops.Unreadable = cc blames in
      absurd (none (ap (λ (s : RunStop). Err (stopped.Taker s)) is));
  told = λ differ. absurd (cc (cause.told differ));
}

module _ {D S : Type 0} (now : D → ℕ) (disk : D → ℕ → Option DiskState)
    (told : D → Option (List Tell)) (disk_faults wire_faults : D → ℕ) (scratch : S → ScratchState)
    (scratch_faults : S → ℕ) where
  abbrev rule : TurnRule (D × S) Following RunStop
  rule = FollowsFrame now disk told disk_faults wire_faults scratch scratch_faults

  -- what a follower has done by so many frames, from a state on
  record Progress (state : State) (count : ℕ) (old new : D) (follower : FollowerState)
      (left_old left_new : Option (List ℕ)) : Type 0 where
    done : Followed
    grown : Grown state done
    follows : Follows now disk told old new state done (λ f. f) (Ok follower)
    leads : (input : List ℕ) → left_old ≡ Some input
        → Leads compiled_in stored_placement input left_new count (nothing_done state) done

  -- what holds after so many frames
  record Stands (first : At (D × S) Following) (count : ℕ) (at : At (D × S) Following)
      : Type 0 where
    ready : IsReady at.chain.follower.node (disk at.taker.0 (now at.taker.0)) (scratch at.taker.1)
    retains : Retains (scratch first.taker.1) (scratch at.taker.1)
    log_goes_on : (content : List ℕ)
        → content_of (disk first.taker.0 (now first.taker.0)) ≡ Some content
        → Keeps now disk first.taker.0 at.taker.0 (Grows next_in_log content)
    index : at.chain.next ≡ count
    followed : is_known (scratch first.taker.1) ≡ true → (state : State)
        → IsFollowerOf first.chain.follower (disk first.taker.0 (now first.taker.0)) state
        → Progress state count first.taker.0 at.taker.0 at.chain.follower first.left at.left

  starts : (first : At (D × S) Following) → first.chain.next ≡ 0
      → IsReady first.chain.follower.node (disk first.taker.0 (now first.taker.0))
      (scratch first.taker.1)
      → Stands first 0 first
  starts first begins ready = record {
    ready = ready;
    retains = retains_refl (scratch first.taker.1);
    log_goes_on = log_begun now disk first.taker.0 first.chain.follower.node.log ready.log;
    index = begins;
    followed = λ known state is. record {
      done = nothing_done state;
      grown = grown_none state;
      follows = none_follows now disk told first.taker.0 state first.chain.follower is;
      leads = λ input left_is. leads_first compiled_in stored_placement input first.left
          (nothing_done state) left_is;
    };
  }

  -- the delivery of one more frame, whatever it returns
  frame_follows : (first : At (D × S) Following) (count : ℕ) (before : At (D × S) Following)
      (left : Option (List ℕ)) (taker : D × S) (turned : Result (FrameTurn Following) RunStop)
      → (s : Stands first count before) → (has : HasTurn rule count before left taker turned)
      → is_known (scratch first.taker.1) ≡ true → (state : State)
      → (p : Progress state count first.taker.0 before.taker.0 before.chain.follower first.left
      before.left)
      → Follows now disk told first.taker.0 taker.0 state
      (after_frame compiled_in stored_placement p.done count has.frame) (λ f. f)
      has.turn_is.answer
  frame_follows first count before left taker turned s has known state p =
      let t = has.turn_is in
      let one = subst (λ (n : ℕ). Follows now disk told before.taker.0 taker.0 p.done.state
      (frame_done p.done n has.frame) (λ (f : FollowerState). f) t.answer) s.index
      (t.delivers.follows (s.retains.known ∙ known) p.done.state p.follows.answer) in
      subst (λ (d : Followed). Follows now disk told first.taker.0 taker.0 state d
      (λ (f : FollowerState). f) t.answer)
      (sym (after_frame_from compiled_in stored_placement p.done count has.frame))
      (then_follows now disk told first.taker.0 before.taker.0 taker.0 state p.done
      (frame_done p.done count has.frame) before.chain.follower (λ (f : FollowerState). f) t.answer
      p.follows p.grown one)

  one_frame : (first : At (D × S) Following) (count : ℕ) (before after : At (D × S) Following)
      → count ≤ MAX_FRAMES → Stands first count before
      → HasTurn rule count before after.left after.taker (Ok (frame_turns.Taken after.chain))
      → Stands first (count + 1) after
  one_frame first count before after bound s has =
      let t = has.turn_is in
      let w = took t.next t.answer after.chain t.answer_is in
      record {
        ready = t.ready;
        retains = retains_trans (scratch first.taker.1) (scratch before.taker.1)
            (scratch after.taker.1) s.retains t.delivers.retains;
        log_goes_on = λ content content_is. log_more now disk first.taker.0 before.taker.0
            after.taker.0 before.chain.follower.node.log content content_is
            (s.log_goes_on content content_is) s.ready.log t.delivers.log_goes_on;
        index = w.1 ∙ t.counts (omega (arith, s.index, bound)) ∙ ap (λ (n : ℕ). n + 1) s.index;
        followed = λ known state is.
            let p = s.followed known state is in
            record {
              done = after_frame compiled_in stored_placement p.done count has.frame;
              grown = subst (Grown state)
                  (sym (after_frame_from compiled_in stored_placement p.done count has.frame))
                  (grown_more state p.done (frame_done p.done count has.frame) p.grown
                  (grown_frame p.done.state count has.frame));
              follows = subst (λ (r : Result FollowerState RunStop). Follows now disk told
                  first.taker.0 after.taker.0 state
                  (after_frame compiled_in stored_placement p.done count has.frame)
                  (λ (f : FollowerState). f) r) w.0
                  (frame_follows first count before after.left after.taker
                  (Ok (frame_turns.Taken after.chain)) s has known state p);
              leads = λ input left_is. leads_on compiled_in stored_placement input before.left
                  after.left count (nothing_done state) p.done has.frame bound
                  (p.leads input left_is) has.read;
            };
      }

  -- a frame that is refused for its form reaches no taker
  same_taker : (count : ℕ) (before : At (D × S) Following) (left : Option (List ℕ)) (taker : D × S)
      (cause : Cause) → RefusesFrame rule count before left taker cause → taker ≡ before.taker
  same_taker count before left taker causes.Truncated refuses = refuses.1
  same_taker count before left taker (causes.Length size) refuses = refuses.1
  same_taker count before left taker causes.Many refuses = refuses.1
  same_taker count before left taker (causes.Block refusal) refuses = absurd
      (not_refused refuses.turn_is.next refuses.turn_is.answer refusal refuses.turn_is.answer_is)

  module _ (first : At (D × S) Following) (left : Option (List ℕ)) (taker : D × S)
      (begins : first.chain.next ≡ 0)
      (ready : IsReady first.chain.follower.node (disk first.taker.0 (now first.taker.0))
      (scratch first.taker.1))
    where
      stands : (result : Result (InputEnd Following) (InputStop RunStop))
          → (takes : TakesInput rule first left taker result) → Stands first takes.count takes.last
      stands result takes = carried rule (λ (count : ℕ) (at : At (D × S) Following). Stands first
          count at) first takes.last takes.count takes.bound (starts first begins ready)
          (one_frame first) takes.taken

      -- ---- whatever it ends with

      pub log_ends : (result : Result (InputEnd Following) (InputStop RunStop)) → TakesInput rule
          first left taker result → (content : List ℕ)
          → content_of (disk first.taker.0 (now first.taker.0)) ≡ Some content
          → Keeps now disk first.taker.0 taker.0 (Grows next_in_log content)
      log_ends result takes content content_is =
          let s = stands result takes in
          at_end rule (λ (t : D × S). Keeps now disk first.taker.0 t.0 (Grows next_in_log content))
          takes.count takes.last left taker result (s.log_goes_on content content_is)
          (λ after turned has. log_more now disk first.taker.0 takes.last.taker.0 taker.0
          takes.last.chain.follower.node.log content content_is (s.log_goes_on content content_is)
          s.ready.log has.turn_is.delivers.log_goes_on) takes.end

      pub retains_ends : (result : Result (InputEnd Following) (InputStop RunStop))
          → TakesInput rule first left taker result
          → Retains (scratch first.taker.1) (scratch taker.1)
      retains_ends result takes =
          let s = stands result takes in
          at_end rule (λ (t : D × S). Retains (scratch first.taker.1) (scratch t.1)) takes.count
          takes.last left taker result s.retains
          (λ after turned has. retains_trans (scratch first.taker.1) (scratch takes.last.taker.1)
          (scratch taker.1) s.retains has.turn_is.delivers.retains) takes.end

      pub goes_ends : (result : Result (InputEnd Following) (InputStop RunStop))
          → TakesInput rule first left taker result → is_known (scratch first.taker.1) ≡ true
          → (state : State)
          → IsFollowerOf first.chain.follower (disk first.taker.0 (now first.taker.0)) state
          → IsKnown (disk first.taker.0 (now first.taker.0))
          → Keeps now disk first.taker.0 taker.0 (GoesFrom (chain_held state))
      goes_ends result takes known state is is_told =
          let s = stands result takes in
          let p = s.followed known state is in
          at_end rule (λ (t : D × S). Keeps now disk first.taker.0 t.0
          (GoesFrom (chain_held state))) takes.count takes.last left taker result
          (goes_from now disk told first.taker.0 takes.last.taker.0 state p.done
          (λ (f : FollowerState). f) (Ok takes.last.chain.follower) p.follows is_told)
          (λ after turned has. goes_from now disk told first.taker.0 taker.0 state
          (after_frame compiled_in stored_placement p.done takes.count has.frame)
          (λ (f : FollowerState). f) has.turn_is.answer
          (frame_follows first takes.count takes.last after taker turned s has known state p)
          is_told) takes.end

      pub reads_ends : (result : Result (InputEnd Following) (InputStop RunStop))
          → TakesInput rule first left taker result
          → IsErrOf result (stopped.Taker stops.Unreadable) → ⊥
      reads_ends result takes is =
          let has : HasTurn rule takes.count takes.last left taker (Err stops.Unreadable) = subst
          (EndsAfter rule takes.count takes.last left taker) is takes.end in
          has.turn_is.delivers.reads (stopped_by has.turn_is.next has.turn_is.answer
          stops.Unreadable has.turn_is.answer_is)

      pub disk_ends : (result : Result (InputEnd Following) (InputStop RunStop))
          → TakesInput rule first left taker result
          → HasCause (disk_faults first.taker.0) (disk_faults taker.0)
          (IsErrOf result (stopped.Taker stops.DiskFault))
      disk_ends result takes = blames rule (λ (t : D × S). disk_faults t.0) stops.DiskFault
          (λ s t chain frame turned has. turn_blames (disk_faults s.0) (disk_faults t.0) has.next
          has.answer turned stops.DiskFault has.answer_is has.delivers.disk_fault) first left taker
          result takes

      pub scratch_ends : (result : Result (InputEnd Following) (InputStop RunStop))
          → TakesInput rule first left taker result
          → HasCause (scratch_faults first.taker.1) (scratch_faults taker.1)
          (IsErrOf result (stopped.Taker stops.ScratchFault))
      scratch_ends result takes = blames rule (λ (t : D × S). scratch_faults t.1) stops.ScratchFault
          (λ s t chain frame turned has. turn_blames (scratch_faults s.1) (scratch_faults t.1)
          has.next has.answer turned stops.ScratchFault has.answer_is has.delivers.scratch_fault)
          first left taker result takes

      pub wire_ends : (result : Result (InputEnd Following) (InputStop RunStop))
          → TakesInput rule first left taker result
          → HasCause (wire_faults first.taker.0) (wire_faults taker.0)
          (IsErrOf result (stopped.Taker stops.Untold))
      wire_ends result takes = blames rule (λ (t : D × S). wire_faults t.0) stops.Untold
          (λ s t chain frame turned has. turn_blames (wire_faults s.0) (wire_faults t.0) has.next
          has.answer turned stops.Untold has.answer_is has.delivers.untold) first left taker result
          takes

      -- ---- by the fold

      module _ (known : is_known (scratch first.taker.1) ≡ true) (state : State)
          (input : List ℕ)
          (is : IsFollowerOf first.chain.follower (disk first.taker.0 (now first.taker.0)) state)
          (left_is : first.left ≡ Some input) where
        -- the input has ended, and the last line is printed
        pub whole_followed : (chain : Following) (new : D) (result : Result RunEnd RunStop)
            → TakesInput rule first left taker (Ok (inputs.Whole chain))
            → Stays now disk taker.0 new
            → Telling next_in_chain now disk told taker.0 new
            (plain (follow_line (length chain.follower.node.chain.digests)
            (length chain.follower.waiting)) ∷ []) (is_ok result)
            → IfOk result (λ answer. answer ≡ ends.Whole)
            → FollowsAll now disk told first.taker.0 new left (chain_held state)
            (fold_all state input) result
        whole_followed chain new result takes stays telling end =
            let s = stands (Ok (inputs.Whole chain)) takes in
            let p = s.followed known state is in
            let e = whole_so compiled_in stored_placement input takes.last.left left takes.count
            (nothing_done state) p.done takes.bound (p.leads input left_is) takes.end.0 in
            let line = subst (λ (c : Following). Telling next_in_chain now disk told taker.0 new
            (plain (follow_line (length c.follower.node.chain.digests)
            (length c.follower.waiting)) ∷ []) (is_ok result)) takes.end.2 telling in
            subst (λ (f : FollowFold). FollowsAll now disk told first.taker.0 new left
            (chain_held state) f result) (sym e.same)
            (then_line now disk told first.taker.0 takes.last.taker.0 new left state p.done
            takes.last.chain.follower Whole e.rest result p.follows p.grown e.left_is
            (whole_end result end) (subst (λ (t : D × S). Stays now disk t.0 new) takes.end.1 stays)
            (subst (λ (l : Line). Telling next_in_chain now disk told takes.last.taker.0 new
            (l ∷ []) (is_ok result))
            (counts_held p.done.state takes.last.chain.follower
            (disk takes.last.taker.0 (now takes.last.taker.0)) p.follows.answer)
            (subst (λ (t : D × S). Telling next_in_chain now disk told t.0 new
            (plain (follow_line (length takes.last.chain.follower.node.chain.digests)
            (length takes.last.chain.follower.waiting)) ∷ []) (is_ok result)) takes.end.1 line)))

        -- reading failed, or memory ran out before the frame
        pub unread : (result : Result (InputEnd Following) (InputStop RunStop)) (stop : RunStop)
            → (takes : TakesInput rule first left taker result) → taker ≡ takes.last.taker
            → FollowsAll now disk told first.taker.0 taker.0 left (chain_held state)
            (fold_all state input) (Err stop)
        unread result stop takes same =
            let s = stands result takes in
            let p = s.followed known state is in
            let more = leads_longer compiled_in stored_placement input takes.last.left takes.count
            (nothing_done state) p.done (p.leads input left_is) in
            subst (λ (t : D × S). FollowsAll now disk told first.taker.0 t.0 left
            (chain_held state) (fold_all state input) (Err stop)) (sym same)
            (then_stop now disk told first.taker.0 takes.last.taker.0 left state p.done more.0
            (λ (f : FollowerState). f) (fold_all state input) stop
            (stopped_then now disk told first.taker.0 takes.last.taker.0 state p.done
            takes.last.chain.follower stop p.follows) more.1)

        -- the delivery of a frame was stopped
        pub stopped_within : (stop : RunStop)
            → TakesInput rule first left taker (Err (stopped.Taker stop))
            → FollowsAll now disk told first.taker.0 taker.0 left (chain_held state)
            (fold_all state input) (Err stop)
        stopped_within stop takes =
            let s = stands (Err (stopped.Taker stop)) takes in
            let p = s.followed known state is in
            let t = takes.end.turn_is in
            let here = subst (λ (r : Result FollowerState RunStop). Follows now disk told
            first.taker.0 taker.0 state
            (after_frame compiled_in stored_placement p.done takes.count takes.end.frame)
            (λ (f : FollowerState). f) r) (stopped_by t.next t.answer stop t.answer_is)
            (frame_follows first takes.count takes.last left taker (Err stop) s takes.end known
            state p) in
            let more = within_longer compiled_in stored_placement input takes.last.left left
            takes.count (nothing_done state) p.done takes.end.frame takes.bound
            (p.leads input left_is) takes.end.read in
            then_stop now disk told first.taker.0 taker.0 left state
            (after_frame compiled_in stored_placement p.done takes.count takes.end.frame) more.0
            (λ (f : FollowerState). f) (fold_all state input) stop here more.1

        -- a frame is refused for its form, and its line is printed
        module _ (new : D) (frame : ℕ) (cause : Cause) (result : Result RunEnd RunStop) where
          by_form : (takes : TakesInput rule first left taker (Ok (inputs.Refused frame cause)))
              → taker ≡ takes.last.taker → Stays now disk taker.0 new
              → Telling next_in_chain now disk told taker.0 new (plain (refused_line frame cause)
              ∷ []) (is_ok result) → IfOk result (λ answer. answer ≡ ends.Refused frame cause)
              → FollowsAll now disk told first.taker.0 new left (chain_held state)
              (fold_all state input) result
          by_form takes same stays telling end =
              let s = stands (Ok (inputs.Refused frame cause)) takes in
              let p = s.followed known state is in
              let e = refused_so compiled_in stored_placement rule input takes.last left taker
              takes.count (nothing_done state) p.done cause takes.bound (p.leads input left_is)
              (λ bytes refusal has. not_refused has.next has.answer refusal has.answer_is)
              takes.end.1 in
              let number : frame ≡ takes.count = takes.end.0 in
              subst (λ (f : FollowFold). FollowsAll now disk told first.taker.0 new left
              (chain_held state) f result) (sym e.same)
              (then_line now disk told first.taker.0 takes.last.taker.0 new left state p.done
              takes.last.chain.follower (Refused takes.count cause) e.rest result p.follows p.grown
              e.left_is (refused_end frame takes.count cause result number end)
              (subst (λ (t : D × S). Stays now disk t.0 new) same stays)
              (subst (λ (n : ℕ). Telling next_in_chain now disk told takes.last.taker.0 new
              (plain (refused_line n cause) ∷ []) (is_ok result)) number
              (subst (λ (t : D × S). Telling next_in_chain now disk told t.0 new
              (plain (refused_line frame cause) ∷ []) (is_ok result)) same telling)))

          pub refused : (takes : TakesInput rule first left taker (Ok (inputs.Refused frame cause)))
              → Stays now disk taker.0 new
              → Telling next_in_chain now disk told taker.0 new (plain (refused_line frame cause)
              ∷ []) (is_ok result) → IfOk result (λ answer. answer ≡ ends.Refused frame cause)
              → FollowsAll now disk told first.taker.0 new left (chain_held state)
              (fold_all state input) result
          refused takes stays telling end = by_form takes
              (same_taker takes.count takes.last left taker cause takes.end.1) stays telling end
