-- Runs of the commands that change the log: `append` and `follow`, which take the frames of their
-- input, and `upgrade`, have the output of their command.
use Rattle.std.proofs.Common.{◌≡◌, ℕ, ◌+◌, Bool, true, false, List, [], ◌∷◌, inl, Option, Some}
use Rattle.std.proofs.Common.{None, Result, Ok, Err, refl, sym, ap, ◌∙◌, subst}
use Rattle.std.specs.Prelude.{IfOk, is_ok}
use Rattle.std.specs.Option.{is_some}
use Rattle.lc_io.specs.Disk.{DiskState, Stays}
use Rattle.lc_io.specs.Outside.{Tell}
use Rattle.disk_model.specs.Disk.{IsSettled, Keeps, Rests, content_of}
use Rattle.disk_model.proofs.Moments.{then_keeps, weaker, stays_on}
use Rattle.block_codec.specs.Reading.{block_in}
use Rattle.block_codec.specs.declared.block.Block.{Block}
use Rattle.block_codec.specs.declared.limits.TheConstants.{MAX_FRAMES}
use Rattle.block_log.specs.Log.{LogState, IsOldOrMarked}
use Rattle.block_log.specs.Standing.{Standing, Blank, NotALog, Damaged, Holds, Logged, blocks_in}
use Rattle.block_log.specs.Standing.{nothing_logged, logged_of, with_blocks, with_mark, chain_of}
use Rattle.block_log.specs.Standing.{standing}
use Rattle.block_log.proofs.Resting.{rests_weaker}
use Rattle.chain_exec.specs.Compiled.{compiled_in}
use Rattle.chain_replay.specs.Chain.{placement_by_mark}
use Rattle.chain_replay.specs.Judging.{added_by_all}
use Rattle.chain_input.specs.Folding.{Fold, FoldEnd, fold_from}
use Rattle.cli_append.specs.recovery.Node.{NodeState, IsNodeOf, IsNodeStarted, IsNoStart}
use Rattle.cli_append.specs.recovery.Node.{IsLogOf, IsLogStored, next_in_chain, logged_in}
use Rattle.cli_append.specs.recovery.declared.errors.StartError.{StartError}
use Rattle.cli_append.specs.cli_promises.Promises.{Line, Appends, Marks, Telling, IsPartly}
use Rattle.cli_append.specs.cli_promises.Promises.{MayLeave}
use Rattle.cli_append.specs.cli_promises.Promises.{IsChanged}
use Rattle.cli_append.proofs.cli_promises.Tellings.{told_since}
use Rattle.cli_append.specs.cli_promises.Appending.{AppendsAll, HasEnded as HasAppended, IsKnown}
use Rattle.cli_append.specs.cli_promises.Appending.{fold_lines}
use Rattle.cli_append.specs.cli_promises.Appending.{fold_end, upgrade_change, Upgrades}
use Rattle.cli_append.proofs.cli_promises.Resting.{with_none}
use Rattle.cli_append.specs.cli_promises.declared.ending.RunEnd.{RunEnd}
use Rattle.cli_append.specs.cli_promises.declared.ending.RunStop.{RunStop}
use Rattle.cli_lines.specs.Outcome.{status_of}
use Rattle.cli_lines.specs.declared.outcome.Outcome.{Outcome}
use Rattle.cli_lines.specs.declared.outcome.Ending.{Ending}
use Rattle.cli_append.specs.cli_promises.Following.{FollowsAll, HasFollowed, FollowFold, follow_all}
use Rattle.cli_append.specs.cli_promises.Following.{follow_lines}
use Rattle.cli_words.specs.declared.words.Command.{Command}
use Rattle.cli_words.specs.declared.words.Command.TheVariants.{Append, Follow, Upgrade}
use Rattle.cli_output.specs.Output.{Output, output_of, upgrade_output, on_log, fold_ending, Wants}
use Rattle.cli_output.specs.Uses.{appends_log, reads_input, uses_disk, uses_scratch}
use Rattle.cli_output.specs.Running.{came_to_end, leaves, is_no_change, Meets, IsGiven}
use Rattle.cli_output.specs.Running.{HeldIsGiven, IsRun}
use Rattle.cli_output.specs.Telling.{status_of_result, run_answer, upgrade_answer, Tells}
use Rattle.cli_output.specs.Telling.{stop_of_outcome, start_outcome}
use Rattle.cli_output.specs.declared.stop.OutcomeStop.{OutcomeStop}
use Rattle.cli_output.proofs.Found.{left_given}
use Rattle.cli_output.proofs.Meets.{ending_ends, stop_stops, told_input, left_same, left_read}
use Rattle.cli_output.proofs.Meets.{rests_given, on_log_blocks, on_log_is, is_on_no_log}
use Rattle.cli_output.proofs.Meets.{content_stays, quiet_images, said_met, silent_met, says_since}
use Rattle.chain_cli.proofs.Ends.{for_appends}
use Rattle.chain_cli.proofs.Moments.{started_chain}

-- ---- what is known

told_disk : (state : Option DiskState) (content : List ℕ) → IsGiven true (content_of state) content
    → IsKnown state
told_disk None content given = absurd given
told_disk (Some s) content given = refl

-- ---- changes

log_may_leave : (content : List ℕ) (logged : Logged) (added : List Block) (c : List ℕ)
    → chain_of next_in_chain content ≡ Some logged → c ≡ content
    → MayLeave next_in_chain content (Appends added) c
log_may_leave content logged added c is same =
    (logged, is, (0, ap (chain_of next_in_chain) same ∙ is ∙ ap Some (sym (with_none logged))))

-- the same where the log is marked
mark_may_leave : (content : List ℕ) (logged : Logged) (marked : Bool) (c : List ℕ)
    → chain_of next_in_chain content ≡ Some logged → c ≡ content
    → MayLeave next_in_chain content (upgrade_change marked) c
mark_may_leave content logged true c is same = same
mark_may_leave content logged false c is same =
    (logged, is, inl (ap (chain_of next_in_chain) same ∙ is))

-- a command over the log may leave the content, if it may over each chain
over_may_leave : (over : Logged → Output) (content input : List ℕ)
    → ((logged : Logged) (c : List ℕ) → chain_of next_in_chain content ≡ Some logged → c ≡ content
    → MayLeave next_in_chain content (over logged).change c)
    → (stands : Standing) → standing next_in_chain content ≡ stands → (c : List ℕ) → c ≡ content
    → MayLeave next_in_chain content (on_log over input stands).change c
over_may_leave over content input leads Blank is c same =
    leads nothing_logged c (ap logged_of is) same
over_may_leave over content input leads NotALog is c same = same
over_may_leave over content input leads (Damaged before at) is c same = same
over_may_leave over content input leads (Holds stored marked gate) is c same =
    leads (record { blocks = blocks_in stored; marked = marked }) c (ap logged_of is) same

upgrade_may_leave : (input content c : List ℕ) → c ≡ content → MayLeave next_in_chain content
    (on_log (upgrade_output input) input (standing next_in_chain content)).change c
upgrade_may_leave input content = over_may_leave (upgrade_output input) content input
    (λ logged. mark_may_leave content logged logged.marked)
    (standing next_in_chain content) refl

-- a log of which it is said that nothing changes was marked
was_marked : (marked : Bool) → is_no_change (upgrade_change marked) ≡ true → marked ≡ true
was_marked true none = refl
was_marked false none = absurd (cc none)

-- a change that appends no block has none to append
no_blocks : (added : List Block) → is_no_change (Appends added) ≡ true → added ≡ []
no_blocks [] none = refl
no_blocks (block ∷ blocks) none = absurd (cc none)

-- ---- what is taken of an input

-- what becomes of the frames of an input: the lines that are printed, how the frames end, what
-- follows what was read, and the blocks that are added
record Took : Type 0 where
  lines : List Line
  end : FoldEnd
  rest : List ℕ
  added : List Block

-- what a command does with the frames of an input, over the chain of the log
abbrev Taking : Type 0
Taking = List ℕ → Logged → Took

-- its output over that chain
abbrev taken : Taking → List ℕ → Logged → Output
taken taking input logged = record {
  lines = (taking input logged).lines;
  status = status_of (fold_ending (taking input logged).end);
  left = (taking input logged).rest;
  change = Appends (taking input logged).added;
}

-- the fold of `append`
abbrev frames_of : List ℕ → Logged → Fold
frames_of input logged =
    fold_from block_in (placement_by_mark compiled_in logged.marked) (MAX_FRAMES + 1) logged.blocks
    input

abbrev appended : Taking
appended input logged =
    let fold = frames_of input logged in
    record {
      lines = fold_lines compiled_in logged.blocks fold;
      end = fold.end;
      rest = fold.left;
      added = added_by_all fold.taken;
    }

-- the fold of `follow`
abbrev delivered_of : List ℕ → Logged → FollowFold
delivered_of input logged = follow_all compiled_in (placement_by_mark compiled_in) logged input

abbrev followed : Taking
followed input logged =
    let fold = delivered_of input logged in
    record {
      lines = follow_lines fold;
      end = fold.end;
      rest = fold.left;
      added = fold.done.added;
    }

-- the output of the command over the log is that of what it takes
record TakesFrames (command : Option Command) (taking : Taking) : Type 0 where
  reads : reads_input command ≡ true
  needs : uses_disk command ≡ true
  keeps : uses_scratch command ≡ true
  wanted : (input content : List ℕ) → Wants block_in compiled_in command input content
      (on_log (taken taking input) input (standing next_in_chain content))

append_takes : TakesFrames (Some Append) appended
append_takes = record { reads = refl; needs = refl; keeps = refl; wanted = λ input content. refl }

follow_takes : TakesFrames (Some Follow) followed
follow_takes = record { reads = refl; needs = refl; keeps = refl; wanted = λ input content. refl }

taken_may_leave : (taking : Taking) (input content c : List ℕ) → c ≡ content
    → MayLeave next_in_chain content
    (on_log (taken taking input) input (standing next_in_chain content)).change c
taken_may_leave taking input content = over_may_leave (taken taking input) content input
    (λ logged. log_may_leave content logged (taking input logged).added)
    (standing next_in_chain content) refl

-- a command came to the end of the frames, from this chain on
record HasTaken (state : Option DiskState) (left : Option (List ℕ)) (logged : Logged) (took : Took)
    (end : RunEnd) : Type 0 where
  end_is : fold_end end ≡ took.end
  left_is : left ≡ Some took.rest
  log : Rests state (λ image. chain_of next_in_chain image ≡ Some (with_blocks logged took.added))

module _ {D : Type 0} (now : D → ℕ) (disk : D → ℕ → Option DiskState)
    (told : D → Option (List Tell)) where
  -- ---- commands that change the log

  -- no log could be started
  refused_met : (over : Logged → Output) (old mid new : D) (error : StartError)
      (found : Result Outcome OutcomeStop) (result : Result Ending RunStop)
      (left : Option (List ℕ)) (input content : List ℕ)
      → Rests (disk old (now old)) (λ c. c ≡ content) → Stays now disk old mid
      → told mid ≡ told old → IsNoStart (standing next_in_chain content) error
      → IfOk found (λ outcome. start_outcome error ≡ Ok outcome) → Stays now disk mid new
      → Tells next_in_chain now disk told mid new found result → left ≡ leaves left input
      → ((c : List ℕ) → c ≡ content → MayLeave next_in_chain content
      (on_log over input (standing next_in_chain content)).change c)
      → Meets next_in_chain now disk told old new (status_of_result result) left left content
      (on_log over input (standing next_in_chain content))
  refused_met over old mid new error (Ok outcome) result left input content rests begins same none
      is stays says left_is leads =
      let stands = standing next_in_chain content in
      subst (Meets next_in_chain now disk told old new (status_of_result result) left left content)
      (on_log_is over input stands (output_of outcome input)
      (is_on_no_log (λ logged o. o ≡ over logged) input stands error outcome none is))
      (said_met now disk told old new content outcome result left left input rests
      (stays_on now disk old mid new begins stays)
      (says_since now disk told old mid new outcome result same says) left_is)
  refused_met over old mid new error (Err stop) result left input content rests begins same none is
      stays says left_is leads =
      let output = on_log over input (standing next_in_chain content) in
      silent_met now disk told old new content output (stop_of_outcome stop) result left left
      (quiet_images now disk told old new content output.change rests
      (stays_on now disk old mid new begins stays) leads)
      (record { stop_is = says.stop_is; silent = says.silent ∙ same })

  refused_by : (command : Option Command) (over : List ℕ → Logged → Output)
      → uses_disk command ≡ true
      → ((input content : List ℕ) → Wants block_in compiled_in command input content
      (on_log (over input) input (standing next_in_chain content)))
      → ((input content c : List ℕ) → c ≡ content → MayLeave next_in_chain content
      (on_log (over input) input (standing next_in_chain content)).change c)
      → (old mid new : D) (error : StartError) (found : Result Outcome OutcomeStop)
      (result : Result Ending RunStop) (left : Option (List ℕ)) (held : Bool)
      → IsSettled (disk old (now old)) → Stays now disk old mid → told mid ≡ told old
      → (HeldIsGiven held command → (content : List ℕ)
      → content_of (disk old (now old)) ≡ Some content
      → IsNoStart (standing next_in_chain content) error)
      → IfOk found (λ outcome. start_outcome error ≡ Ok outcome) → Stays now disk mid new
      → Tells next_in_chain now disk told mid new found result
      → IsRun now disk told old new (status_of_result result) left left held block_in compiled_in
      command
  refused_by command over needs wanted leads old mid new error found result left held settled
      begins same started is stays says heard input content given_input given =
      let here = told_input (content_of (disk old (now old))) content
      (subst (λ (b : Bool). IsGiven b (content_of (disk old (now old))) content) needs given) in (
        on_log (over input) input (standing next_in_chain content),
        wanted input content,
        refused_met (over input) old mid new error found result left input content
            (rests_given (uses_disk command) (disk old (now old)) content settled given) begins same
            (started heard content here) is stays says
            (left_given (reads_input command) left input given_input) (leads input content),
      )

  refused_taking : (command : Option Command) (taking : Taking) → TakesFrames command taking
      → (old mid new : D) (error : StartError) (found : Result Outcome OutcomeStop)
      (result : Result Ending RunStop) (left : Option (List ℕ)) (held : Bool)
      → IsSettled (disk old (now old)) → Stays now disk old mid → told mid ≡ told old
      → (held ≡ true → (content : List ℕ) → content_of (disk old (now old)) ≡ Some content
      → IsNoStart (standing next_in_chain content) error)
      → IfOk found (λ outcome. start_outcome error ≡ Ok outcome) → Stays now disk mid new
      → Tells next_in_chain now disk told mid new found result
      → IsRun now disk told old new (status_of_result result) left left held block_in compiled_in
      command
  refused_taking command taking takes old mid new error found result left held settled begins same
      started =
      refused_by command (taken taking) takes.needs takes.wanted (taken_may_leave taking) old mid
      new error found result left held settled begins same (λ heard. started (heard takes.keeps))

  pub refused_run : (command : Command) → appends_log (Some command) ≡ true → (old mid new : D)
      (error : StartError) (found : Result Outcome OutcomeStop) (result : Result Ending RunStop)
      (left : Option (List ℕ)) (held : Bool) → IsSettled (disk old (now old))
      → Stays now disk old mid → told mid ≡ told old
      → (held ≡ true → (content : List ℕ) → content_of (disk old (now old)) ≡ Some content
      → IsNoStart (standing next_in_chain content) error)
      → IfOk found (λ outcome. start_outcome error ≡ Ok outcome) → Stays now disk mid new
      → Tells next_in_chain now disk told mid new found result
      → IsRun now disk told old new (status_of_result result) left left held block_in compiled_in
      (Some command)
  refused_run command appends old mid new error found result left held settled begins same started
      is stays says =
      let Run : Command → Type 0 = λ c. IsRun now disk told old new (status_of_result result) left
      left held block_in compiled_in (Some c) in
      for_appends Run
      (refused_taking (Some Append) appended append_takes old mid new error found result left held
      settled begins same started is stays says)
      (refused_taking (Some Follow) followed follow_takes old mid new error found result left held
      settled begins same started is stays says) command appends

  -- ---- `append` and `follow`

  -- what becomes of the disk and of the wire, whatever is returned
  record TakesAll (old new : D) (left : Option (List ℕ)) (logged : Logged) (took : Took)
      (result : Result RunEnd RunStop) : Type 0 where
    images : IsKnown (disk old (now old)) → Keeps now disk old new
        (IsPartly next_in_chain logged took.added)
    lines : IsKnown (disk old (now old)) → Telling next_in_chain now disk told old new took.lines
        (is_ok result)
    unwritten : is_ok result ≡ true → took.added ≡ [] → Stays now disk old new
    ended : IfOk result (HasTaken (disk new (now new)) left logged took)

  append_ended : (state : Option DiskState) (left : Option (List ℕ)) (logged : Logged)
      (input : List ℕ) (result : Result RunEnd RunStop)
      → IfOk result (HasAppended state left logged (frames_of input logged))
      → IfOk result (HasTaken state left logged (appended input logged))
  append_ended state left logged input (Ok end) ended =
      record { end_is = ended.end_is; left_is = ended.left_is; log = ended.log }
  append_ended state left logged input (Err stop) ended = tt

  follow_ended : (state : Option DiskState) (left : Option (List ℕ)) (logged : Logged)
      (input : List ℕ) (result : Result RunEnd RunStop)
      → IfOk result (HasFollowed state left logged (delivered_of input logged))
      → IfOk result (HasTaken state left logged (followed input logged))
  follow_ended state left logged input (Ok end) ended =
      record { end_is = ended.end_is; left_is = ended.left_is; log = ended.log }
  follow_ended state left logged input (Err stop) ended = tt

  taken_met : (old mid new : D) (content : List ℕ) (logged : Logged) (taking : Taking)
      (answer : Result RunEnd RunStop) (left_old left_new : Option (List ℕ)) (input : List ℕ)
      → left_old ≡ Some input → chain_of next_in_chain content ≡ Some logged
      → Stays now disk old mid
      → Keeps now disk old new (MayLeave next_in_chain content
      (Appends (taking input logged).added))
      → Telling next_in_chain now disk told old new (taking input logged).lines (is_ok answer)
      → (is_ok answer ≡ true → (taking input logged).added ≡ [] → Stays now disk mid new)
      → IfOk answer (HasTaken (disk new (now new)) left_new logged (taking input logged))
      → Meets next_in_chain now disk told old new (status_of_result (run_answer answer)) left_old
      left_new content (taken taking input logged)
  taken_met old mid new content logged taking (Ok end) left_old left_new input left_is is begins
      images lines unwritten ended =
      let took : Took = taking input logged in
      let ends : came_to_end (status_of (fold_ending (fold_end end))) ≡ true = ending_ends
      (fold_ending (fold_end end)) in
      record {
        lines = subst (λ (all : Bool). Telling next_in_chain now disk told old new took.lines all)
            (sym ends) lines;
        images = images;
        unwritten = λ e none. stays_on now disk old mid new begins
            (unwritten refl (no_blocks took.added none));
        ended = λ e. record {
          status_is = ap (λ (x : FoldEnd). status_of (fold_ending x)) ended.end_is;
          left_is = ended.left_is ∙ left_read left_old input took.rest left_is;
          log = rests_weaker
              (λ image. chain_of next_in_chain image ≡ Some (with_blocks logged took.added))
              (IsChanged next_in_chain content (Appends took.added)) (disk new (now new)) ended.log
              (λ image at. (logged, is, at));
        };
      }
  taken_met old mid new content logged taking (Err stop) left_old left_new input left_is is begins
      images lines unwritten ended =
      let halts = stop_stops stop in
      record {
        lines = subst (λ (all : Bool). Telling next_in_chain now disk told old new
            (taking input logged).lines all) (sym halts) lines;
        images = images;
        unwritten = λ e none. absurd (cc (halts, e));
        ended = λ e. absurd (cc (halts, e));
      }

  -- the frames were taken over the node that was started
  taken_run : (command : Option Command) (taking : Taking) → TakesFrames command taking
      → (old mid new : D) (node : NodeState) (answer : Result RunEnd RunStop)
      (left_old left_new : Option (List ℕ)) (held : Bool) → IsSettled (disk old (now old))
      → Stays now disk old mid → told mid ≡ told old
      → (held ≡ true → (content : List ℕ) → content_of (disk old (now old)) ≡ Some content
      → IsNodeStarted (disk mid (now mid)) (standing next_in_chain content) (Ok node))
      → (held ≡ true → (blocks : List Block) (input : List ℕ)
      → IsNodeOf node (disk mid (now mid)) blocks → left_old ≡ Some input
      → TakesAll mid new left_new (logged_in node.log blocks)
      (taking input (logged_in node.log blocks)) answer)
      → IsRun now disk told old new (status_of_result (run_answer answer)) left_old left_new held
      block_in compiled_in command
  taken_run command taking takes old mid new node answer left_old left_new held settled begins same
      started all heard input content given_input given =
      let reads : IsGiven true left_old input =
      subst (λ (b : Bool). IsGiven b left_old input) takes.reads given_input in
      let holds : IsGiven true (content_of (disk old (now old))) content =
      subst (λ (b : Bool). IsGiven b (content_of (disk old (now old))) content) takes.needs given in
      let left_is = told_input left_old input reads in
      let s = started (heard takes.keeps) content
      (told_input (content_of (disk old (now old))) content holds) in
      let logged : Logged = logged_in node.log s.0.blocks in
      let stands = started_chain node (disk mid (now mid)) (standing next_in_chain content) s in
      let took : Took = taking input logged in
      let all_taken = all (heard takes.keeps) s.0.blocks input s.2.0 left_is in
      let here : IsKnown (disk mid (now mid)) = ap is_some begins.last
      ∙ told_disk (disk old (now old)) content holds in
      let rests = rests_given true (disk old (now old)) content settled holds in
      let images : Keeps now disk old new (MayLeave next_in_chain content (Appends took.added)) =
      then_keeps now disk old mid new (MayLeave next_in_chain content (Appends took.added))
      (quiet_images now disk told old mid content (Appends took.added) rests begins
      (λ c at. log_may_leave content logged took.added c stands at))
      (weaker now disk mid new (IsPartly next_in_chain logged took.added)
      (MayLeave next_in_chain content (Appends took.added)) (all_taken.images here)
      (λ c at. (logged, stands, at))) in (
        taken taking input logged,
        subst (Wants block_in compiled_in command input content)
            (on_log_blocks (taken taking input) input (standing next_in_chain content) logged
            stands) (takes.wanted input content),
        taken_met old mid new content logged taking answer left_old left_new input left_is stands
            begins images (told_since next_in_chain now disk told old mid new took.lines
            (is_ok answer) same (all_taken.lines here)) all_taken.unwritten all_taken.ended,
      )

  pub append_run : (old mid new : D) (node : NodeState) (answer : Result RunEnd RunStop)
      (left_old left_new : Option (List ℕ)) (held : Bool) → IsSettled (disk old (now old))
      → Stays now disk old mid → told mid ≡ told old
      → (held ≡ true → (content : List ℕ) → content_of (disk old (now old)) ≡ Some content
      → IsNodeStarted (disk mid (now mid)) (standing next_in_chain content) (Ok node))
      → (held ≡ true → (blocks : List Block) (input : List ℕ)
      → IsNodeOf node (disk mid (now mid)) blocks → left_old ≡ Some input
      → AppendsAll now disk told mid new left_new (logged_in node.log blocks)
      (frames_of input (logged_in node.log blocks)) answer)
      → IsRun now disk told old new (status_of_result (run_answer answer)) left_old left_new held
      block_in compiled_in (Some Append)
  append_run old mid new node answer left_old left_new held settled begins same started all =
      taken_run (Some Append) appended append_takes old mid new node answer left_old left_new held
      settled begins same started (λ heard blocks input is left.
      let a = all heard blocks input is left in
      record {
        images = a.images;
        lines = a.lines;
        unwritten = a.unwritten;
        ended = append_ended (disk new (now new)) left_new (logged_in node.log blocks) input answer
            a.ended;
      })

  pub follow_run : (old mid new : D) (node : NodeState) (answer : Result RunEnd RunStop)
      (left_old left_new : Option (List ℕ)) (held : Bool) → IsSettled (disk old (now old))
      → Stays now disk old mid → told mid ≡ told old
      → (held ≡ true → (content : List ℕ) → content_of (disk old (now old)) ≡ Some content
      → IsNodeStarted (disk mid (now mid)) (standing next_in_chain content) (Ok node))
      → (held ≡ true → (blocks : List Block) (input : List ℕ)
      → IsNodeOf node (disk mid (now mid)) blocks → left_old ≡ Some input
      → FollowsAll now disk told mid new left_new (logged_in node.log blocks)
      (delivered_of input (logged_in node.log blocks)) answer)
      → IsRun now disk told old new (status_of_result (run_answer answer)) left_old left_new held
      block_in compiled_in (Some Follow)
  follow_run old mid new node answer left_old left_new held settled begins same started all =
      taken_run (Some Follow) followed follow_takes old mid new node answer left_old left_new held
      settled begins same started (λ heard blocks input is left.
      let a = all heard blocks input is left in
      record {
        images = a.images;
        lines = a.lines;
        unwritten = a.unwritten;
        ended = follow_ended (disk new (now new)) left_new (logged_in node.log blocks) input answer
            a.ended;
      })

  -- ---- `upgrade`

  mark_images : (old mid new : D) (content : List ℕ) (logged : Logged) (marked : Bool)
      → logged.marked ≡ marked → chain_of next_in_chain content ≡ Some logged
      → Rests (disk old (now old)) (λ c. c ≡ content) → Stays now disk old mid
      → Keeps now disk mid new (IsOldOrMarked next_in_chain logged)
      → (logged.marked ≡ true → Stays now disk mid new)
      → Keeps now disk old new (MayLeave next_in_chain content (upgrade_change marked))
  mark_images old mid new content logged true mark is rests begins images unwritten =
      content_stays now disk told old new content rests
      (stays_on now disk old mid new begins (unwritten mark))
  mark_images old mid new content logged false mark is rests begins images unwritten =
      then_keeps now disk old mid new (MayLeave next_in_chain content Marks)
      (quiet_images now disk told old mid content Marks rests begins
      (λ c at. mark_may_leave content logged false c is at))
      (weaker now disk mid new (IsOldOrMarked next_in_chain logged)
      (MayLeave next_in_chain content Marks) images (λ c at. (logged, is, at)))

  mark_stands : (old mid new : D) (content : List ℕ) (logged : Logged) (marked : Bool)
      → logged.marked ≡ marked → chain_of next_in_chain content ≡ Some logged
      → Rests (disk old (now old)) (λ c. c ≡ content) → Stays now disk old mid
      → (logged.marked ≡ true → Stays now disk mid new)
      → Rests (disk new (now new)) (λ image. chain_of next_in_chain image ≡ Some (with_mark logged))
      → Rests (disk new (now new)) (IsChanged next_in_chain content (upgrade_change marked))
  mark_stands old mid new content logged true mark is rests begins unwritten ended = subst
      (λ (o : Option DiskState). Rests o (λ c. c ≡ content))
      (sym (stays_on now disk old mid new begins (unwritten mark)).last) rests
  mark_stands old mid new content logged false mark is rests begins unwritten ended = rests_weaker
      (λ image. chain_of next_in_chain image ≡ Some (with_mark logged))
      (IsChanged next_in_chain content Marks) (disk new (now new)) ended
      (λ image at. (logged, is, at))

  upgrade_met : {T : Type 0} (old mid new : D) (content : List ℕ) (logged : Logged)
      (answer : Result T RunStop) (left : Option (List ℕ)) (input : List ℕ)
      → left ≡ leaves left input → chain_of next_in_chain content ≡ Some logged
      → Rests (disk old (now old)) (λ c. c ≡ content) → Stays now disk old mid
      → told mid ≡ told old → IsKnown (disk mid (now mid))
      → Upgrades now disk told mid new logged answer
      → Meets next_in_chain now disk told old new (status_of_result (upgrade_answer answer)) left
      left content (upgrade_output input logged)
  upgrade_met old mid new content logged (Ok done) left input left_is is rests begins same here
      upgrades = record {
        lines = told_since next_in_chain now disk told old mid new
            (upgrade_output input logged).lines true same (upgrades.lines here);
        images = mark_images old mid new content logged logged.marked refl is rests begins
            (upgrades.images here) upgrades.unwritten;
        unwritten = λ e none. stays_on now disk old mid new begins
            (upgrades.unwritten (was_marked logged.marked none));
        ended = λ e. record {
          status_is = refl;
          left_is = left_is;
          log = mark_stands old mid new content logged logged.marked refl is rests begins
              upgrades.unwritten upgrades.ended;
        };
      }
  upgrade_met old mid new content logged (Err stop) left input left_is is rests begins same here
      upgrades =
      let halts = stop_stops stop in
      record {
        lines = subst (λ (all : Bool). Telling next_in_chain now disk told old new
            (upgrade_output input logged).lines all) (sym halts)
            (told_since next_in_chain now disk told old mid new
            (upgrade_output input logged).lines false same (upgrades.lines here));
        images = mark_images old mid new content logged logged.marked refl is rests begins
            (upgrades.images here) upgrades.unwritten;
        unwritten = λ e none. absurd (cc (halts, e));
        ended = λ e. absurd (cc (halts, e));
      }

  pub refused_upgrade : (old mid new : D) (error : StartError)
      (found : Result Outcome OutcomeStop) (result : Result Ending RunStop)
      (left : Option (List ℕ)) (held : Bool) → IsSettled (disk old (now old))
      → Stays now disk old mid → told mid ≡ told old
      → ((content : List ℕ) → content_of (disk old (now old)) ≡ Some content
      → IsNoStart (standing next_in_chain content) error)
      → IfOk found (λ outcome. start_outcome error ≡ Ok outcome) → Stays now disk mid new
      → Tells next_in_chain now disk told mid new found result
      → IsRun now disk told old new (status_of_result result) left left held block_in compiled_in
      (Some Upgrade)
  refused_upgrade old mid new error found result left held settled begins same opened =
      refused_by (Some Upgrade) upgrade_output refl (λ input content. refl) upgrade_may_leave old
      mid new error found result left held settled begins same (λ heard. opened)

  pub upgrade_run : {T : Type 0} (old mid new : D) (log : LogState) (answer : Result T RunStop)
      (left : Option (List ℕ)) (held : Bool) → IsSettled (disk old (now old))
      → Stays now disk old mid → told mid ≡ told old
      → ((content : List ℕ) → content_of (disk old (now old)) ≡ Some content
      → IsLogStored (disk mid (now mid)) (standing next_in_chain content) (Ok log))
      → ((logged : Logged) → IsLogOf log (disk mid (now mid)) logged
      → Upgrades now disk told mid new logged answer)
      → IsRun now disk told old new (status_of_result (upgrade_answer answer)) left left held
      block_in compiled_in (Some Upgrade)
  upgrade_run old mid new log answer left held settled begins same opened all heard input content
      given_input given =
      let s = opened content (told_input (content_of (disk old (now old))) content given) in
      let logged : Logged = s.0 in
      let here : IsKnown (disk mid (now mid)) = ap is_some begins.last
      ∙ told_disk (disk old (now old)) content given in (
        upgrade_output input logged,
        sym (on_log_blocks (upgrade_output input) input (standing next_in_chain content) logged
            s.1),
        upgrade_met old mid new content logged answer left input
            (left_same left input given_input) s.1
            (rests_given true (disk old (now old)) content settled given) begins same here
            (all s.0 s.2),
      )
