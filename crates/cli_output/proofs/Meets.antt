-- Runs that leave the disk as it is do what an outcome says, and so do those over the blocks of the
-- log.
use Rattle.std.proofs.Common.{◌≡◌, ℕ, Bool, true, false, List, [], ◌∷◌, map, Option, Some, None}
use Rattle.std.proofs.Common.{Result, Ok, Err, refl, sym, ap, ◌∙◌, subst}
use Rattle.std.specs.Prelude.{IfOk, is_ok}
use Rattle.lc_io.specs.Disk.{DiskState, Stays}
use Rattle.lc_io.specs.Outside.{Tell}
use Rattle.disk_model.specs.Disk.{IsSettled, Keeps, Rests, content_of}
use Rattle.disk_model.proofs.Moments.{weaker}
use Rattle.block_codec.specs.declared.block.Block.{Block}
use Rattle.block_log.specs.Standing.{Standing, Blank, NotALog, Damaged, Holds, Logged}
use Rattle.block_log.specs.Standing.{nothing_logged, logged_of, blocks_in}
use Rattle.block_log.specs.Standing.{blocks_in}
use Rattle.cli_promises.specs.recovery.Node.{NodeState, IsNodeStarted, IsChainStored, IsNoStart}
use Rattle.cli_promises.specs.recovery.Node.{next_in_chain}
use Rattle.cli_promises.specs.recovery.declared.errors.StartError.{StartError}
use Rattle.cli_promises.specs.recovery.declared.errors.StartError.TheVariants as starts
use Rattle.cli_promises.specs.Promises.{plain, Change, NoChange, Telling, MayLeave}
use Rattle.cli_promises.proofs.Tellings.{none_told, still, told_since}
use Rattle.cli_promises.proofs.Resting.{rests_each}
use Rattle.cli_promises.specs.cli_lines.Lines.{not_a_log_line, damaged_line}
use Rattle.cli_promises.specs.cli_lines.Outcome.{status_of, outcome_with}
use Rattle.cli_promises.specs.cli_lines.declared.outcome.Outcome.{Outcome}
use Rattle.cli_promises.specs.cli_lines.declared.outcome.Ending.{Ending}
use Rattle.cli_promises.specs.cli_lines.declared.outcome.Ending.TheVariants as endings
use Rattle.cli_output.specs.Output.{Output, output_of, on_log, IsOnLog}
use Rattle.cli_output.specs.Running.{came_to_end, leaves, Meets, IsGiven}
use Rattle.cli_output.specs.Telling.{status_of_stop, status_of_result, start_outcome, Says}
use Rattle.cli_output.specs.Telling.{StopsSilent}
use Rattle.cli_promises.specs.declared.ending.RunStop.{RunStop}
use Rattle.cli_promises.specs.declared.ending.RunStop.TheVariants as stops

-- ---- statuses

pub ending_ends : (ending : Ending) → came_to_end (status_of ending) ≡ true
ending_ends endings.Done = refl
ending_ends endings.Refused = refl
ending_ends endings.Beyond = refl
ending_ends endings.Rejected = refl
ending_ends endings.BadInput = refl
ending_ends endings.NotALog = refl
ending_ends endings.Damaged = refl

pub stop_stops : (stop : RunStop) → came_to_end (status_of_stop stop) ≡ false
stop_stops stops.Unreadable = refl
stop_stops stops.Untold = refl
stop_stops stops.DiskFault = refl
stop_stops stops.ScratchFault = refl
stop_stops stops.Memory = refl

-- ---- what is known of the input

pub told_input : (left : Option (List ℕ)) (input : List ℕ) → IsGiven true left input
    → left ≡ Some input
told_input None input given = absurd given
told_input (Some bytes) input given = ap Some given

pub left_same : (left : Option (List ℕ)) (input : List ℕ) → IsGiven false left input
    → left ≡ leaves left input
left_same None input given = refl
left_same (Some bytes) input given = ap Some given

pub left_read : (left : Option (List ℕ)) (input rest : List ℕ) → left ≡ Some input
    → Some rest ≡ leaves left rest
left_read left input rest is = sym (ap (λ (o : Option (List ℕ)). leaves o rest) is)

pub rests_given : (uses : Bool) (state : Option DiskState) (content : List ℕ) → IsSettled state
    → IsGiven uses (content_of state) content → Rests state (λ c. c ≡ content)
rests_given uses None content rests given = tt
rests_given true (Some s) content rests given = (rests, given)
rests_given false (Some s) content rests given = (rests, given)

-- ---- outputs over the blocks of the log

pub same_may_leave : (content : List ℕ) (what : Change) (c : List ℕ) → what ≡ NoChange → c ≡ content
    → MayLeave next_in_chain content what c
same_may_leave content what c is same = subst (λ (x : Change). MayLeave next_in_chain content x c)
    (sym is) same

-- the output of a command, by the blocks of the log
pub on_log_blocks : (over : Logged → Output) (input : List ℕ) (stands : Standing)
    (logged : Logged) → logged_of stands ≡ Some logged → on_log over input stands ≡ over logged
on_log_blocks over input Blank logged is = let same : nothing_logged ≡ logged = cc is in ap over same
on_log_blocks over input NotALog logged is = absurd (cc is)
on_log_blocks over input (Damaged before at) logged is = absurd (cc is)
on_log_blocks over input (Holds stored marked gate) logged is =
    let held : Logged = record { blocks = blocks_in stored; marked = marked } in
    let same : held ≡ logged = cc is in
    ap over same

pub is_on_log_blocks : (Over : Logged → Output → Type 0) (input : List ℕ) (stands : Standing)
    (logged : Logged) (output : Output) → logged_of stands ≡ Some logged → Over logged output
    → IsOnLog Over input stands output
is_on_log_blocks Over input Blank logged output is over = let same : nothing_logged ≡ logged = cc is in subst
    (λ (l : Logged). Over l output) (sym same) over
is_on_log_blocks Over input NotALog logged output is over = absurd (cc is)
is_on_log_blocks Over input (Damaged before at) logged output is over = absurd (cc is)
is_on_log_blocks Over input (Holds stored marked gate) logged output is over =
    let held : Logged = record { blocks = blocks_in stored; marked = marked } in
    let same : held ≡ logged = cc is in
    subst (λ (l : Logged). Over l output) (sym same) over

-- if there is an output over any chain, there is one over any log
pub some_on_log : (Over : Logged → Output → Type 0) (over : Logged → Output)
    → ((logged : Logged) → Over logged (over logged)) → (input : List ℕ) (stands : Standing)
    → IsOnLog Over input stands (on_log over input stands)
some_on_log Over over wanted input Blank = wanted nothing_logged
some_on_log Over over wanted input NotALog = refl
some_on_log Over over wanted input (Damaged before at) = refl
some_on_log Over over wanted input (Holds stored marked gate) = wanted (record { blocks = blocks_in stored; marked = marked })

-- and if it is the only one over any chain, it is the only one over any log
pub one_on_log : (Over : Logged → Output → Type 0)
    → ((logged : Logged) (a b : Output) → Over logged a → Over logged b → a ≡ b)
    → (input : List ℕ) (stands : Standing) (a b : Output) → IsOnLog Over input stands a
    → IsOnLog Over input stands b → a ≡ b
one_on_log Over one input Blank a b is_a is_b = one nothing_logged a b is_a is_b
one_on_log Over one input NotALog a b is_a is_b = is_a ∙ sym is_b
one_on_log Over one input (Damaged before at) a b is_a is_b = is_a ∙ sym is_b
one_on_log Over one input (Holds stored marked gate) a b is_a is_b = one (record { blocks = blocks_in stored; marked = marked }) a b is_a is_b

-- an output over the log changes nothing if none over any chain does
pub on_log_no_change : (over : Logged → Output)
    → ((logged : Logged) → (over logged).change ≡ NoChange)
    → (input : List ℕ) (stands : Standing) → (on_log over input stands).change ≡ NoChange
on_log_no_change over none input Blank = none nothing_logged
on_log_no_change over none input NotALog = refl
on_log_no_change over none input (Damaged before at) = refl
on_log_no_change over none input (Holds stored marked gate) = none (record { blocks = blocks_in stored; marked = marked })

pub is_on_log_no_change : (Over : Logged → Output → Type 0)
    → ((logged : Logged) (output : Output) → Over logged output → output.change ≡ NoChange)
    → (input : List ℕ) (stands : Standing) (output : Output) → IsOnLog Over input stands output
    → output.change ≡ NoChange
is_on_log_no_change Over none input Blank output is = none nothing_logged output is
is_on_log_no_change Over none input NotALog output is = ap (λ (o : Output). o.change) is
is_on_log_no_change Over none input (Damaged before at) output is = ap (λ (o : Output). o.change) is
is_on_log_no_change Over none input (Holds stored marked gate) output is = none (record { blocks = blocks_in stored; marked = marked }) output
    is

-- where there is one output over any chain, it is that over the log
pub on_log_is : (over : Logged → Output) (input : List ℕ) (stands : Standing) (output : Output)
    → IsOnLog (λ logged o. o ≡ over logged) input stands output → output ≡ on_log over input stands
on_log_is over input Blank output is = is
on_log_is over input NotALog output is = is
on_log_is over input (Damaged before at) output is = is
on_log_is over input (Holds stored marked gate) output is = is

-- where nothing could be started, what is found makes the output over the log
pub is_on_no_log : (Over : Logged → Output → Type 0) (input : List ℕ) (stands : Standing)
    (error : StartError) (outcome : Outcome) → IsNoStart stands error
    → start_outcome error ≡ Ok outcome → IsOnLog Over input stands (output_of outcome input)
is_on_no_log Over input stands starts.NotALog outcome is found =
    let same : outcome_with (not_a_log_line ∷ []) endings.NotALog ≡ outcome = cc found in
    subst (λ (s : Standing). IsOnLog Over input s (output_of outcome input)) (sym is)
    (ap (λ (o : Outcome). output_of o input) (sym same))
is_on_no_log Over input stands (starts.Damaged at) outcome (before, is) found =
    let same : outcome_with (damaged_line at ∷ []) endings.Damaged ≡ outcome = cc found in
    subst (λ (s : Standing). IsOnLog Over input s (output_of outcome input)) (sym is)
    (ap (λ (o : Outcome). output_of o input) (sym same))
is_on_no_log Over input stands starts.DiskFault outcome is found = absurd (cc found)
is_on_no_log Over input stands starts.ScratchFault outcome is found = absurd (cc found)
is_on_no_log Over input stands starts.Memory outcome is found = absurd (cc found)

-- an outcome that is right for all blocks with a property is right for these
pub of_blocks : {E : Type 0} (found : Result Outcome E) (P : List Block → Type 0)
    (Q : List Block → Outcome → Type 0)
    → IfOk found (λ o. (blocks : List Block) → P blocks → Q blocks o) → (blocks : List Block)
    → P blocks → IfOk found (Q blocks)
of_blocks (Ok outcome) P Q is blocks p = is blocks p
of_blocks (Err e) P Q is blocks p = tt

-- the chain of a node
pub chain_of_node : (state : Option DiskState) (node : NodeState) (stands : Standing)
    → IsNodeStarted state stands (Ok node) → IsChainStored stands (Ok node.chain)
chain_of_node state node stands started = (started.0, started.1, started.2.0.kept)

-- what holds in any case holds at the end
if_ended : {P : Type 0} (result : Result Ending RunStop) → P → IfOk result (λ ending. P)
if_ended (Ok ending) holds = holds
if_ended (Err stop) holds = tt

module _ {D : Type 0} (now : D → ℕ) (disk : D → ℕ → Option DiskState)
    (told : D → Option (List Tell)) where
  -- ---- commands that leave the disk as it is

  pub content_stays : (old new : D) (content : List ℕ)
      → Rests (disk old (now old)) (λ c. c ≡ content) → Stays now disk old new
      → Keeps now disk old new (λ c. c ≡ content)
  content_stays old new content rests stays = still next_in_chain now disk told old new
      (λ c. c ≡ content) (rests_each (disk old (now old)) (λ c. c ≡ content) rests) stays

  pub quiet_images : (old new : D) (content : List ℕ) (change : Change)
      → Rests (disk old (now old)) (λ c. c ≡ content) → Stays now disk old new
      → ((c : List ℕ) → c ≡ content → MayLeave next_in_chain content change c)
      → Keeps now disk old new (MayLeave next_in_chain content change)
  quiet_images old new content what rests stays leads = weaker now disk old new (λ c. c ≡ content)
      (MayLeave next_in_chain content what) (content_stays old new content rests stays) leads

  -- where what is left of the input is known at the end
  pub ended_met : (old new : D) (content : List ℕ) (outcome : Outcome)
      (result : Result Ending RunStop) (left_old left_new : Option (List ℕ)) (rest : List ℕ)
      → Rests (disk old (now old)) (λ c. c ≡ content) → Stays now disk old new
      → Says next_in_chain now disk told old new outcome result
      → IfOk result (λ ending. left_new ≡ leaves left_old rest)
      → Meets next_in_chain now disk told old new (status_of_result result) left_old left_new
      content (output_of outcome rest)
  ended_met old new content outcome (Ok ending) left_old left_new rest rests stays says left =
      let ends : came_to_end (status_of ending) ≡ true = ending_ends ending in
      record {
        lines = subst (λ (all : Bool). Telling next_in_chain now disk told old new
            (map plain outcome.pieces) all) (sym ends) says.lines;
        images = content_stays old new content rests stays;
        unwritten = λ e none. stays;
        ended = λ e. record {
          status_is = ap status_of says.ending;
          left_is = left;
          log = subst
              (λ (o : Option DiskState). Rests o (λ c. c ≡ content)) (sym stays.last) rests;
        };
      }
  ended_met old new content outcome (Err stop) left_old left_new rest rests stays says left =
      let halts = stop_stops stop in
      record {
        lines = subst (λ (all : Bool). Telling next_in_chain now disk told old new
            (map plain outcome.pieces) all) (sym halts) says.lines;
        images = content_stays old new content rests stays;
        unwritten = λ e none. stays;
        ended = λ e. absurd (cc (halts, e));
      }

  -- where it is known in any case
  pub said_met : (old new : D) (content : List ℕ) (outcome : Outcome)
      (result : Result Ending RunStop) (left_old left_new : Option (List ℕ)) (rest : List ℕ)
      → Rests (disk old (now old)) (λ c. c ≡ content) → Stays now disk old new
      → Says next_in_chain now disk told old new outcome result
      → left_new ≡ leaves left_old rest
      → Meets next_in_chain now disk told old new (status_of_result result) left_old left_new
      content (output_of outcome rest)
  said_met old new content outcome result left_old left_new rest rests stays says left =
      ended_met old new content outcome result left_old left_new rest rests stays says
      (if_ended result left)

  -- nothing was printed
  pub silent_met : (old new : D) (content : List ℕ) (output : Output) (stop : RunStop)
      (result : Result Ending RunStop) (left_old left_new : Option (List ℕ))
      → Keeps now disk old new (MayLeave next_in_chain content output.change)
      → StopsSilent told old new stop result
      → Meets next_in_chain now disk told old new (status_of_result result) left_old left_new
      content output
  silent_met old new content output stop result left_old left_new images is =
      let halts : came_to_end (status_of_result result) ≡ false = ap
      (λ (r : Result Ending RunStop). came_to_end (status_of_result r)) is.stop_is
      ∙ stop_stops stop in
      record {
        lines = subst (λ (all : Bool). Telling next_in_chain now disk told old new output.lines all)
            (sym halts) (none_told next_in_chain now disk told old new output.lines is.silent);
        images = images;
        unwritten = λ e none. absurd (cc (halts, e));
        ended = λ e. absurd (cc (halts, e));
      }

  pub says_since : (old mid new : D) (outcome : Outcome) (result : Result Ending RunStop)
      → told mid ≡ told old → Says next_in_chain now disk told mid new outcome result
      → Says next_in_chain now disk told old new outcome result
  says_since old mid new outcome result same says = record {
    lines = told_since next_in_chain now disk told old mid new (map plain outcome.pieces)
        (is_ok result) same says.lines;
    ending = says.ending;
  }
