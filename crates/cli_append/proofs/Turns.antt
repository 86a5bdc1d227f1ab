-- What carries through the turns of `append`, from the first frame to the end.
use Rattle.std.proofs.Common.{◌≡◌, ℕ, ◌+◌, ◌≤◌, Bool, true, List, [], ◌∷◌, refl, sym, ◌∙◌, subst}
use Rattle.std.specs.Prelude.{Option, Some, Result, Ok, Err, is_ok, IfOk, IsErrOf}
use Rattle.lc_base.specs.Faults.{HasCause}
use Rattle.lc_io.specs.Disk.{DiskState, Stays}
use Rattle.lc_io.specs.Outside.{Tell}
use Rattle.disk_model.specs.Disk.{Keeps, content_of}
use Rattle.lc_io.specs.Scratch.{ScratchState, is_known, Retains}
use Rattle.lc_io.proofs.Retaining.{retains_refl, retains_trans}
use Rattle.block_codec.specs.Reading.{block_in}
use Rattle.block_codec.specs.declared.limits.TheConstants.{MAX_FRAMES}
use Rattle.block_codec.specs.declared.block.Block.{Block}
use Rattle.block_log.specs.Standing.{Logged}
use Rattle.block_log.specs.Log.{next_in_log}
use Rattle.chain_input.specs.Folding.{Fold, fold_from}
use Rattle.chain_input.specs.Taking.{TurnRule, At, HasTurn, TakesInput, EndsAfter}
use Rattle.chain_input.specs.declared.cause.Cause.{Cause}
use Rattle.chain_input.specs.declared.cause.Cause.TheVariants as causes
use Rattle.chain_input.specs.declared.taking.Turn.TheVariants as turns
use Rattle.chain_input.specs.declared.taking.InputEnd.{InputEnd}
use Rattle.chain_input.specs.declared.taking.InputEnd.TheVariants as inputs
use Rattle.chain_input.specs.declared.taking.InputStop.{InputStop}
use Rattle.chain_input.specs.declared.taking.InputStop.TheVariants as stopped
use Rattle.chain_input.proofs.Taken.{carried, at_end, blames}
use Rattle.chain_input.proofs.Folds.{refused_ends}
use Rattle.cli_promises.specs.recovery.Node.{NodeState, IsNodeOf, IsReady, next_in_chain}
use Rattle.cli_promises.specs.recovery.Node.{stored_placement}
use Rattle.cli_promises.specs.recovery.Node.{logged_in}
use Rattle.chain_replay.specs.Judging.{judgement_of}
use Rattle.cli_promises.specs.Promises.{plain, Telling}
use Rattle.cli_promises.specs.cli_lines.Lines.{refused_line}
use Rattle.cli_promises.specs.Appending.{IsKnown, AppendsAll, GoesFrom, Grows}
use Rattle.cli_append.specs.Steps.{AppendsFrame}
use Rattle.cli_promises.specs.declared.ending.RunEnd.{RunEnd}
use Rattle.cli_promises.specs.declared.ending.RunEnd.TheVariants as ends
use Rattle.cli_promises.specs.declared.ending.RunStop.{RunStop}
use Rattle.cli_promises.specs.declared.ending.RunStop.TheVariants as stops
use Rattle.cli_append.proofs.Loop.{Progress, begun, goes_on, whole_input, refused_form}
use Rattle.cli_append.proofs.Loop.{refused_block}
use Rattle.cli_append.proofs.Loop.{stopped_before, stopped_at, goes_from, goes_step}
use Rattle.cli_append.proofs.ByLog.{log_begun, log_more}

-- the fold of all frames of an input, from this chain on
abbrev fold_all : Logged → List ℕ → Fold
fold_all logged input = fold_from block_in (stored_placement logged.marked) (MAX_FRAMES + 1)
    logged.blocks input

-- what was taken with a machine and a device was taken with the same two, by other names
pub same_input : {D S C E : Type 0} (rule : TurnRule (D × S) C E) (first : At (D × S) C)
    (left : Option (List ℕ)) (result : Result (InputEnd C) (InputStop E)) (old new : D)
    (before after : S)
    → new ≡ old → after ≡ before → TakesInput rule first left (old, before) result → TakesInput rule
    first left (new, after) result
same_input {D} {S} rule first left result old new before after machine device takes =
    subst (λ (d : D). TakesInput rule first left (d, after) result) (sym machine)
    (subst (λ (s : S). TakesInput rule first left (old, s) result) (sym device) takes)

module _ {D S : Type 0} (now : D → ℕ) (disk : D → ℕ → Option DiskState)
    (told : D → Option (List Tell)) (disk_faults wire_faults : D → ℕ) (scratch : S → ScratchState)
    (scratch_faults : S → ℕ) where
  abbrev rule : TurnRule (D × S) NodeState RunStop
  rule = AppendsFrame now disk told disk_faults wire_faults scratch scratch_faults

  -- what holds after so many frames
  record Stands (first : At (D × S) NodeState) (count : ℕ) (at : At (D × S) NodeState) : Type 0 where
    ready : IsReady at.chain (disk at.taker.0 (now at.taker.0)) (scratch at.taker.1)
    retains : Retains (scratch first.taker.1) (scratch at.taker.1)
    log_goes_on : (content : List ℕ)
        → content_of (disk first.taker.0 (now first.taker.0)) ≡ Some content
        → Keeps now disk first.taker.0 at.taker.0 (Grows next_in_log content)
    taken : is_known (scratch first.taker.1) ≡ true → (blocks : List Block) → IsNodeOf first.chain
        (disk first.taker.0 (now first.taker.0)) blocks
        → Progress now disk told first.taker.0 at.taker.0 at.chain count first.left at.left
        (logged_in first.chain.log blocks)

  starts : (first : At (D × S) NodeState)
      → IsReady first.chain (disk first.taker.0 (now first.taker.0)) (scratch first.taker.1)
      → Stands first 0 first
  starts first ready = record {
    ready = ready;
    retains = retains_refl (scratch first.taker.1);
    log_goes_on = log_begun now disk first.taker.0 first.chain.log ready.log;
    taken = λ known blocks is. begun now disk told first.taker.0 first.chain first.left
        (logged_in first.chain.log blocks) refl is;
  }

  one_frame : (first : At (D × S) NodeState) (count : ℕ) (before after : At (D × S) NodeState)
      → count ≤ MAX_FRAMES → Stands first count before
      → HasTurn rule count before after.left after.taker (Ok (turns.Taken after.chain))
      → Stands first (count + 1) after
  one_frame first count before after bound s has = record {
    ready = has.turn_is.ready;
    retains = retains_trans (scratch first.taker.1) (scratch before.taker.1) (scratch after.taker.1)
        s.retains has.turn_is.retains;
    log_goes_on = λ content content_is. log_more now disk first.taker.0 before.taker.0 after.taker.0
        before.chain.log content content_is (s.log_goes_on content content_is) s.ready.log
        has.turn_is.log_goes_on;
    taken = λ known blocks is. goes_on now disk told first.taker.0 before.taker.0 after.taker.0
        before.chain after.chain count (count + 1) first.left before.left after.left
        (logged_in first.chain.log blocks) has.frame
        (s.taken known blocks is) bound refl has.read (has.turn_is.takes (s.retains.known ∙ known));
  }

  module _ (first : At (D × S) NodeState) (left : Option (List ℕ)) (taker : D × S)
      (ready : IsReady first.chain (disk first.taker.0 (now first.taker.0)) (scratch first.taker.1))
    where
      stands : (result : Result (InputEnd NodeState) (InputStop RunStop))
          → (takes : TakesInput rule first left taker result) → Stands first takes.count takes.last
      stands result takes = carried rule (λ (count : ℕ) (at : At (D × S) NodeState). Stands first
          count at) first takes.last takes.count takes.bound (starts first ready) (one_frame first)
          takes.taken

      -- ---- whatever it ends with

      pub log_ends : (result : Result (InputEnd NodeState) (InputStop RunStop)) → TakesInput rule
          first left taker result → (content : List ℕ)
          → content_of (disk first.taker.0 (now first.taker.0)) ≡ Some content
          → Keeps now disk first.taker.0 taker.0 (Grows next_in_log content)
      log_ends result takes content content_is =
          let s = stands result takes in
          at_end rule (λ (t : D × S). Keeps now disk first.taker.0 t.0 (Grows next_in_log content))
          takes.count takes.last left taker result (s.log_goes_on content content_is)
          (λ after turned has. log_more now disk first.taker.0 takes.last.taker.0 taker.0
          takes.last.chain.log content content_is (s.log_goes_on content content_is) s.ready.log
          has.turn_is.log_goes_on) takes.end

      pub retains_ends : (result : Result (InputEnd NodeState) (InputStop RunStop))
          → TakesInput rule first left taker result
          → Retains (scratch first.taker.1) (scratch taker.1)
      retains_ends result takes =
          let s = stands result takes in
          at_end rule (λ (t : D × S). Retains (scratch first.taker.1) (scratch t.1)) takes.count
          takes.last left taker result s.retains
          (λ after turned has. retains_trans (scratch first.taker.1) (scratch takes.last.taker.1)
          (scratch taker.1) s.retains has.turn_is.retains) takes.end

      pub goes_ends : (result : Result (InputEnd NodeState) (InputStop RunStop)) → TakesInput rule
          first left taker result → is_known (scratch first.taker.1) ≡ true → (blocks : List Block)
          → IsNodeOf first.chain (disk first.taker.0 (now first.taker.0)) blocks
          → IsKnown (disk first.taker.0 (now first.taker.0)) → Keeps now disk first.taker.0
          taker.0 (GoesFrom (logged_in first.chain.log blocks))
      goes_ends result takes known blocks is is_told =
          let s = stands result takes in
          let p = s.taken known blocks is in
          at_end rule (λ (t : D × S). Keeps now disk first.taker.0 t.0
          (GoesFrom (logged_in first.chain.log blocks))) takes.count takes.last left taker result
          (goes_from now disk told first.taker.0 takes.last.taker.0 takes.last.chain takes.count
          first.left takes.last.left (logged_in first.chain.log blocks) p is_told)
          (λ after turned has. goes_step now disk told first.taker.0 takes.last.taker.0 taker.0
          takes.last.chain takes.count first.left takes.last.left
          (logged_in first.chain.log blocks) has.frame turned p
          (has.turn_is.takes (s.retains.known ∙ known)) is_told) takes.end

      pub reads_ends : (result : Result (InputEnd NodeState) (InputStop RunStop))
          → TakesInput rule first left taker result → IsErrOf result (stopped.Taker stops.Unreadable)
          → ⊥
      reads_ends result takes is =
          let has : HasTurn rule takes.count takes.last left taker (Err stops.Unreadable) = subst
          (EndsAfter rule takes.count takes.last left taker) is takes.end in
          has.turn_is.reads refl

      pub disk_ends : (result : Result (InputEnd NodeState) (InputStop RunStop))
          → TakesInput rule first left taker result
          → HasCause (disk_faults first.taker.0) (disk_faults taker.0)
          (IsErrOf result (stopped.Taker stops.DiskFault))
      disk_ends result takes = blames rule (λ (t : D × S). disk_faults t.0) stops.DiskFault
          (λ s t chain frame turned has. has.disk_fault) first left taker result takes

      pub scratch_ends : (result : Result (InputEnd NodeState) (InputStop RunStop))
          → TakesInput rule first left taker result
          → HasCause (scratch_faults first.taker.1) (scratch_faults taker.1)
          (IsErrOf result (stopped.Taker stops.ScratchFault))
      scratch_ends result takes = blames rule (λ (t : D × S). scratch_faults t.1) stops.ScratchFault
          (λ s t chain frame turned has. has.scratch_fault) first left taker result takes

      pub wire_ends : (result : Result (InputEnd NodeState) (InputStop RunStop))
          → TakesInput rule first left taker result
          → HasCause (wire_faults first.taker.0) (wire_faults taker.0)
          (IsErrOf result (stopped.Taker stops.Untold))
      wire_ends result takes = blames rule (λ (t : D × S). wire_faults t.0) stops.Untold
          (λ s t chain frame turned has. has.untold) first left taker result takes

      -- ---- by the fold

      module _ (known : is_known (scratch first.taker.1) ≡ true) (blocks : List Block)
          (input : List ℕ) (is : IsNodeOf first.chain (disk first.taker.0 (now first.taker.0)) blocks)
          (left_is : first.left ≡ Some input) where
        -- the input has ended, and the disk is looked at
        pub all_appended : (chain : NodeState) (new : D) (result : Result RunEnd RunStop)
            → TakesInput rule first left taker (Ok (inputs.Whole chain))
            → Stays now disk taker.0 new → told new ≡ told taker.0
            → IfOk result (λ answer. answer ≡ ends.Whole)
            → AppendsAll now disk told first.taker.0 new left (logged_in first.chain.log blocks)
            (fold_all (logged_in first.chain.log blocks) input) result
        all_appended chain new result takes stays same end =
            let s = stands (Ok (inputs.Whole chain)) takes in
            whole_input now disk told first.taker.0 takes.last.taker.0 new takes.last.chain
            takes.count first.left takes.last.left left (logged_in first.chain.log blocks) input
            result (s.taken known blocks is) takes.bound left_is takes.end.0
            (subst (λ (t : D × S). Stays now disk t.0 new) takes.end.1 stays)
            (subst (λ (t : D × S). told new ≡ told t.0) takes.end.1 same) end

        -- reading failed, or memory ran out before the frame
        pub unread : (result : Result (InputEnd NodeState) (InputStop RunStop)) (stop : RunStop)
            → (takes : TakesInput rule first left taker result) → taker ≡ takes.last.taker
            → AppendsAll now disk told first.taker.0 taker.0 left (logged_in first.chain.log blocks)
            (fold_all (logged_in first.chain.log blocks) input) (Err stop)
        unread result stop takes same =
            let s = stands result takes in
            subst (λ (t : D × S). AppendsAll now disk told first.taker.0 t.0 left
            (logged_in first.chain.log blocks) (fold_all (logged_in first.chain.log blocks) input)
            (Err stop)) (sym same)
            (stopped_before now disk told first.taker.0 takes.last.taker.0 takes.last.chain
            takes.count first.left takes.last.left left (logged_in first.chain.log blocks) input
            stop (s.taken known blocks is) left_is)

        -- taking a frame was stopped
        pub stopped_within : (stop : RunStop)
            → TakesInput rule first left taker (Err (stopped.Taker stop))
            → AppendsAll now disk told first.taker.0 taker.0 left (logged_in first.chain.log blocks)
            (fold_all (logged_in first.chain.log blocks) input) (Err stop)
        stopped_within stop takes =
            let s = stands (Err (stopped.Taker stop)) takes in
            stopped_at now disk told first.taker.0 takes.last.taker.0 taker.0 takes.last.chain
            takes.count (takes.count + 1) first.left takes.last.left left
            (logged_in first.chain.log blocks) input takes.end.frame stop
            (s.taken known blocks is) takes.bound left_is
            takes.end.read (takes.end.turn_is.takes (s.retains.known ∙ known))

        -- a frame is refused, and its line is printed
        module _ (new : D) (frame : ℕ) (result : Result RunEnd RunStop) where
          by_form : (cause : Cause) → (takes : TakesInput rule first left taker
              (Ok (inputs.Refused frame cause))) → taker ≡ takes.last.taker → Stays now disk taker.0
              new
              → Telling next_in_chain now disk told taker.0 new (plain (refused_line frame cause)
              ∷ []) (is_ok result) → IfOk result (λ answer. answer ≡ ends.Refused frame cause)
              → AppendsAll now disk told first.taker.0 new left (logged_in first.chain.log blocks)
              (fold_all (logged_in first.chain.log blocks) input) result
          by_form cause takes same stays line end =
              let s = stands (Ok (inputs.Refused frame cause)) takes in
              let p = s.taken known blocks is in
              refused_form now disk told first.taker.0 takes.last.taker.0 new takes.last.chain
              takes.count frame first.left takes.last.left left (logged_in first.chain.log blocks)
              input cause result p takes.bound takes.end.0 left_is
              (λ rest rest_is. refused_ends (stored_placement first.chain.log.is_marked) rule
              takes.count p.blocks takes.last left taker cause rest rest_is
              (λ bytes refusal has. subst (λ (m : Bool). judgement_of (stored_placement m)
              p.blocks (block_in bytes) ≡ Err refusal) p.stored.mark_is
              (has.takes (s.retains.known ∙ known) p.blocks p.stored.is_node).answer.0)
              takes.end.1)
              (subst (λ (t : D × S). Stays now disk t.0 new) same stays)
              (subst (λ (t : D × S). Telling next_in_chain now disk told t.0 new
              (plain (refused_line frame cause) ∷ []) (is_ok result)) same line) end

          pub refused : (cause : Cause) → TakesInput rule first left taker
              (Ok (inputs.Refused frame cause)) → Stays now disk taker.0 new
              → Telling next_in_chain now disk told taker.0 new (plain (refused_line frame cause)
              ∷ []) (is_ok result) → IfOk result (λ answer. answer ≡ ends.Refused frame cause)
              → AppendsAll now disk told first.taker.0 new left (logged_in first.chain.log blocks)
              (fold_all (logged_in first.chain.log blocks) input) result
          refused causes.Truncated takes stays line end = by_form causes.Truncated takes takes.end.1.1
              stays line end
          refused (causes.Length size) takes stays line end = by_form (causes.Length size) takes
              takes.end.1.1 stays line end
          refused causes.Many takes stays line end = by_form causes.Many takes takes.end.1.1 stays
              line end
          refused (causes.Block refusal) takes stays line end =
              let s = stands (Ok (inputs.Refused frame (causes.Block refusal))) takes in
              let p = s.taken known blocks is in
              refused_block now disk told first.taker.0 takes.last.taker.0 taker.0 new
              takes.last.chain takes.count frame first.left takes.last.left left
              (logged_in first.chain.log blocks) input takes.end.1.frame refusal result p
              takes.bound takes.end.0 left_is
              (λ rest rest_is. refused_ends (stored_placement first.chain.log.is_marked) rule
              takes.count p.blocks takes.last left taker (causes.Block refusal) rest rest_is
              (λ bytes why has. subst (λ (m : Bool). judgement_of (stored_placement m) p.blocks
              (block_in bytes) ≡ Err why) p.stored.mark_is (has.takes (s.retains.known ∙ known)
              p.blocks p.stored.is_node).answer.0) takes.end.1)
              (takes.end.1.turn_is.takes (s.retains.known ∙ known)) stays line end
