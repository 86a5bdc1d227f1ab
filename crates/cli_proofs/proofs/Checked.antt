-- Proofs are checked one after another: so far the lines of the first ones were printed.
use Rattle.std.proofs.Common.{◌≡◌, ℕ, suc, ◌+◌, ◌-◌, ◌≤◌, ◌<◌, ◌^◌, Bool, true, false, List, []}
use Rattle.std.proofs.Common.{◌∷◌}
use Rattle.std.proofs.Common.{◌++◌, length, map, refl, sym, ap, ◌∙◌, subst, arith}
use Rattle.std.proofs.Common.{append_assoc, append-nil}
use Rattle.std.proofs.lemmas.List.{length-append}
use Rattle.std.specs.Prelude.{◌||◌, min, is_err, is_ok, Option, Some, None, Result, Ok, Err, IfOk}
use Rattle.std.specs.Prelude.{IfErr, IsErrOf}
use Rattle.lc_base.specs.Faults.{HasCause}
use Rattle.lc_io.specs.Disk.{DiskState, Stays}
use Rattle.lc_io.specs.Outside.{Tell}
use Rattle.disk_model.specs.Leaving.{LeavesDisk}
use Rattle.disk_model.proofs.Moments.{stays_here, stays_on}
use Rattle.block_codec.specs.declared.limits.TheConstants.{MAX_FRAMES}
use Rattle.block_log.specs.Standing.{NextBlock}
use Rattle.chain_input.specs.Folding.{FoldEnd, Whole, Refused}
use Rattle.chain_input.specs.Taking.{TurnRule, At, HasTurn, TakesInput, EndsAfter}
use Rattle.chain_input.specs.declared.cause.Cause.{Cause}
use Rattle.chain_input.specs.declared.cause.Cause.TheVariants as causes
use Rattle.chain_input.specs.declared.taking.Turn.TheVariants as turns
use Rattle.chain_input.specs.declared.taking.InputEnd.{InputEnd}
use Rattle.chain_input.specs.declared.taking.InputEnd.TheVariants as inputs
use Rattle.chain_input.specs.declared.taking.InputStop.{InputStop}
use Rattle.chain_input.specs.declared.taking.InputStop.TheVariants as stopped
use Rattle.chain_input.proofs.Taken.{carried, at_end, blames}
use Rattle.cli_output.specs.cli_promises.Promises.{plain, Telling}
use Rattle.cli_output.proofs.cli_promises.Tellings.{none_to_tell, none_told}
use Rattle.cli_words.specs.declared.words.Command.TheVariants.{Light}
use Rattle.cli_output.specs.light_client.Checking.{light_verdict}
use Rattle.cli_output.specs.light_client.declared.block_root.BlockRoot.{BlockRoot}
use Rattle.cli_output.specs.cli_promises.declared.ending.RunStop.{RunStop}
use Rattle.cli_output.specs.cli_promises.declared.ending.RunStop.TheVariants as stops
use Rattle.cli_output.specs.cli_lines.Lines.{refused_line}
use Rattle.cli_output.specs.cli_lines.Outcome.{outcome_with, bad_input, status_of}
use Rattle.cli_output.specs.cli_lines.declared.outcome.Outcome.{Outcome}
use Rattle.cli_output.specs.cli_lines.declared.outcome.Ending.{Ending}
use Rattle.cli_output.specs.cli_lines.declared.outcome.Ending.TheVariants as endings
use Rattle.cli_output.specs.Frames.{Framed, framed, framed_from}
use Rattle.cli_output.specs.Lights.{proof_lines, all_proof_lines, rejects_one, refused_lines}
use Rattle.cli_output.specs.Lights.{light_ending}
use Rattle.cli_output.specs.Output.{checked_outcome}
use Rattle.cli_output.specs.Running.{MayEnd}
use Rattle.cli_output.specs.Telling.{Says, Tells, stop_of_outcome, status_of_found}
use Rattle.cli_output.specs.Telling.{status_of_stop}
use Rattle.cli_output.specs.declared.stop.OutcomeStop.{OutcomeStop}
use Rattle.cli_output.specs.declared.stop.OutcomeStop.TheVariants as outcomes
use Rattle.cli_output.proofs.Plain.{plain_join, plain_cut}
use Rattle.cli_proofs.specs.Checking.{ChecksProof, after_proof}
use Rattle.cli_proofs.specs.declared.taking.Checks.{Checks}
use Rattle.cli_proofs.proofs.Framed.{Leads, Ends, frames_before, leads_first, leads_more}
use Rattle.cli_proofs.proofs.Framed.{whole_ends, truncated_ends, length_ends, many_ends}
use Rattle.cli_proofs.proofs.Proofs.{lines_append, lines_push, rejects_push}

-- what was taken with a machine was taken with the same one, by another name
pub same_input : {D C E : Type 0} (turn : TurnRule D C E) (first : At D C)
    (left : Option (List ℕ)) (result : Result (InputEnd C) (InputStop E)) (old new : D) → new ≡ old
    → TakesInput turn first left old result → TakesInput turn first left new result
same_input turn first left result old new same takes =
    subst (λ d. TakesInput turn first left d result) (sym same) takes

-- ---- how it ends

pub whole_may_end : (rejected : Bool)
    → MayEnd (status_of (light_ending rejected Whole)) (Some Light)
whole_may_end true = refl
whole_may_end false = refl

-- what is found where there is no light file, or where a frame is refused
pub bad_may_end : (found : Result Outcome OutcomeStop) (line : List ℕ)
    → IfOk found (λ outcome. outcome ≡ bad_input line)
    → IfErr found (λ stop. stop ≡ outcomes.Memory) → MayEnd (status_of_found found) (Some Light)
bad_may_end (Ok outcome) line is stop =
    subst (λ (o : Outcome). MayEnd (status_of o.ending) (Some Light)) (sym is) refl
bad_may_end (Err stop) line is memory = subst
    (λ (s : OutcomeStop). MayEnd (status_of_stop (stop_of_outcome s)) (Some Light)) (sym memory) tt

pub refused_may_end : (found : Result Outcome OutcomeStop) (line : List ℕ)
    → IfOk found (λ outcome. outcome ≡ outcome_with (line ∷ []) endings.Refused)
    → IfErr found (λ stop. stop ≡ outcomes.Memory) → MayEnd (status_of_found found) (Some Light)
refused_may_end (Ok outcome) line is stop =
    subst (λ (o : Outcome). MayEnd (status_of o.ending) (Some Light)) (sym is) refl
refused_may_end (Err stop) line is memory = subst
    (λ (s : OutcomeStop). MayEnd (status_of_stop (stop_of_outcome s)) (Some Light)) (sym memory) tt

-- only memory may stop it, so nothing else did
pub only_memory : (found : Result Outcome OutcomeStop) (stop : OutcomeStop)
    → IfErr found (λ stop. stop ≡ outcomes.Memory) → found ≡ Err stop → stop ≡ outcomes.Memory
only_memory (Ok outcome) stop memory is = absurd (cc is)
only_memory (Err other) stop memory is = let same : other ≡ stop = cc is in sym same ∙ memory

-- what holds in any case holds at the end
pub if_ended : {P : Type 0} (result : Result Ending RunStop) → P → IfOk result (λ ending. P)
if_ended (Ok ending) holds = holds
if_ended (Err stop) holds = tt

-- what is kept after these proofs
abbrev pub kept_after : List BlockRoot → List (List ℕ) → Checks
kept_after file proofs =
    record { file = file; count = length proofs; rejected = rejects_one file proofs }

-- one more proof is counted
kept_more : (file : List BlockRoot) (proofs : List (List ℕ)) (proof : List ℕ)
    → length proofs ≤ MAX_FRAMES
    → after_proof (kept_after file proofs) (is_err (light_verdict file proof))
    ≡ kept_after file (proofs ++ proof ∷ [])
kept_more file proofs proof bound =
    let counted : length (proofs ++ proof ∷ []) ≡ length proofs + 1 =
    length-append proofs (proof ∷ []) in
    let fits : min (length proofs + 1) (2 ^ 32 - 1) ≡ length proofs + 1 = grind (arith, bound) in
    ap (λ (n : ℕ). record {
      file = file;
      count = n;
      rejected = rejects_one file proofs || is_err (light_verdict file proof);
    }) (fits ∙ sym counted)
    ∙ ap (λ (some : Bool). record {
      file = file;
      count = length (proofs ++ proof ∷ []);
      rejected = some;
    })
    (sym (rejects_push file proofs proof))

-- the lines of all proofs are those of the first, and others
rest_of_lines : (file : List BlockRoot) (proofs : List (List ℕ)) (others : Framed)
    → (more : List (List ℕ)) × ((checked_outcome file (frames_before proofs others)).pieces
    ≡ all_proof_lines file 0 proofs ++ more)
rest_of_lines file proofs others =
    let number : 0 + length proofs ≡ length proofs = omega arith in
    let own = all_proof_lines file 0 proofs in
    let more = all_proof_lines file (length proofs) others.frames in (
      more ++ refused_lines others.end,
      ap (λ (l : List (List ℕ)). l ++ refused_lines others.end)
          (lines_append file 0 proofs others.frames
          ∙ ap (λ (n : ℕ). own ++ all_proof_lines file n others.frames) number)
          ∙ append_assoc own more (refused_lines others.end),
    )

module _ {D : Type 0} (now : D → ℕ) (disk : D → ℕ → Option DiskState)
    (told : D → Option (List Tell)) (disk_faults wire_faults : D → ℕ) where
  abbrev rule : TurnRule D Checks RunStop
  rule = ChecksProof now disk told disk_faults wire_faults

  -- what holds after so many proofs
  record Progress (first : At D Checks) (file : List BlockRoot) (count : ℕ)
      (at : At D Checks) : Type 0 where
    proofs : List (List ℕ)
    count_is : length proofs ≡ count
    kept : at.chain ≡ kept_after file proofs
    disk_left : LeavesDisk now disk disk_faults first.taker at.taker
    lines : (next : NextBlock) → Telling next now disk told first.taker at.taker
        (map plain (all_proof_lines file 0 proofs)) true
    leads : (input : List ℕ) → first.left ≡ Some input → Leads input at.left count proofs

  starts : (first : At D Checks) (file : List BlockRoot) → first.chain ≡ kept_after file []
      → Progress first file 0 first
  starts first file is = record {
    proofs = [];
    count_is = refl;
    kept = is;
    disk_left = record { stays = stays_here now disk first.taker; faults = refl };
    lines = λ next. none_to_tell next now disk told first.taker first.taker true refl;
    leads = λ input left. leads_first input first.left left;
  }

  leaves_on : (old mid new : D) → LeavesDisk now disk disk_faults old mid
      → LeavesDisk now disk disk_faults mid new → LeavesDisk now disk disk_faults old new
  leaves_on old mid new before after = record {
    stays = stays_on now disk old mid new before.stays after.stays;
    faults = after.faults ∙ before.faults;
  }

  -- the lines of a proof that was checked after these
  own_lines : (mid new : D) (checks : Checks) (file : List BlockRoot) (proofs : List (List ℕ))
      (proof : List ℕ) (all : Bool) → checks ≡ kept_after file proofs
      → ((next : NextBlock) → Telling next now disk told mid new
      (map plain (proof_lines checks.count (light_verdict checks.file proof))) all)
      → (next : NextBlock) → Telling next now disk told mid new
      (map plain (proof_lines (length proofs) (light_verdict file proof))) all
  own_lines mid new checks file proofs proof all is lines next = subst
      (λ (c : Checks). Telling next now disk told mid new
      (map plain (proof_lines c.count (light_verdict c.file proof))) all) is (lines next)

  -- these lines, and then those of one more proof
  more_lines : (old mid new : D) (file : List BlockRoot) (proofs : List (List ℕ)) (proof : List ℕ)
      (all : Bool) (next : NextBlock)
      → Telling next now disk told old mid (map plain (all_proof_lines file 0 proofs)) true
      → Stays now disk mid new
      → Telling next now disk told mid new
      (map plain (proof_lines (length proofs) (light_verdict file proof))) all
      → Telling next now disk told old new
      (map plain (all_proof_lines file 0 (proofs ++ proof ∷ [])))
      all
  more_lines old mid new file proofs proof all next so_far stays own = subst
      (λ (l : List (List ℕ)). Telling next now disk told old new (map plain l) all)
      (sym (lines_push file proofs proof))
      (plain_join now disk told next old mid new (all_proof_lines file 0 proofs)
      (proof_lines (length proofs) (light_verdict file proof)) all so_far stays own)

  one_proof : (first : At D Checks) (file : List BlockRoot) (count : ℕ) (before after : At D Checks)
      → count ≤ MAX_FRAMES → Progress first file count before
      → HasTurn rule count before after.left after.taker (Ok (turns.Taken after.chain))
      → Progress first file (count + 1) after
  one_proof first file count before after bound p has =
      let few : length p.proofs ≤ MAX_FRAMES = omega (arith, bound, p.count_is) in
      record {
        proofs = p.proofs ++ has.frame ∷ [];
        count_is = length-append p.proofs (has.frame ∷ [])
            ∙ ap (λ (n : ℕ). n + 1) p.count_is;
        kept = has.turn_is.goes_on
            ∙ ap (λ (c : Checks). after_proof c (is_err (light_verdict c.file has.frame))) p.kept
            ∙ kept_more file p.proofs has.frame few;
        disk_left = leaves_on first.taker before.taker after.taker p.disk_left has.turn_is.leaves_disk;
        lines = λ next. more_lines first.taker before.taker after.taker file p.proofs has.frame true
            next (p.lines next) has.turn_is.leaves_disk.stays
            (own_lines before.taker after.taker before.chain file p.proofs has.frame true p.kept
            has.turn_is.lines next);
        leads = λ input left. leads_more input before.left after.left count p.proofs has.frame bound
            has.read (p.leads input left);
      }

  module _ (first : At D Checks) (file : List BlockRoot) (left : Option (List ℕ)) (taker : D)
      (begun : first.chain ≡ kept_after file []) where
    progress : (result : Result (InputEnd Checks) (InputStop RunStop))
        → (takes : TakesInput rule first left taker result)
        → Progress first file takes.count takes.last
    progress result takes = carried rule
        (λ (count : ℕ) (at : At D Checks). Progress first file count at)
        first takes.last takes.count takes.bound (starts first file begun) (one_proof first file)
        takes.taken

    -- ---- whatever it ends with

    pub disk_ends : (result : Result (InputEnd Checks) (InputStop RunStop))
        → TakesInput rule first left taker result
        → LeavesDisk now disk disk_faults first.taker taker
    disk_ends result takes =
        let p = progress result takes in
        at_end rule (λ (t : D). LeavesDisk now disk disk_faults first.taker t) takes.count takes.last
        left taker result p.disk_left
        (λ after turned has. leaves_on first.taker takes.last.taker taker p.disk_left
        has.turn_is.leaves_disk) takes.end

    pub wire_ends : (result : Result (InputEnd Checks) (InputStop RunStop))
        → TakesInput rule first left taker result
        → HasCause (wire_faults first.taker) (wire_faults taker)
        (IsErrOf result (stopped.Taker stops.Untold))
    wire_ends result takes = blames rule wire_faults stops.Untold
        (λ s t chain frame turned has. has.untold) first left taker result takes

    pub reads_ends : (result : Result (InputEnd Checks) (InputStop RunStop))
        → TakesInput rule first left taker result
        → IsErrOf result (stopped.Taker stops.Unreadable) → ⊥
    reads_ends result takes is =
        let has : HasTurn rule takes.count takes.last left taker (Err stops.Unreadable) =
        subst (EndsAfter rule takes.count takes.last left taker) is takes.end in
        has.turn_is.only.reads refl

    pub writes_ends : (result : Result (InputEnd Checks) (InputStop RunStop))
        → TakesInput rule first left taker result
        → IsErrOf result (stopped.Taker stops.DiskFault) → ⊥
    writes_ends result takes is =
        let has : HasTurn rule takes.count takes.last left taker (Err stops.DiskFault) =
        subst (EndsAfter rule takes.count takes.last left taker) is takes.end in
        has.turn_is.only.writes refl

    pub keeps_ends : (result : Result (InputEnd Checks) (InputStop RunStop))
        → TakesInput rule first left taker result
        → IsErrOf result (stopped.Taker stops.ScratchFault) → ⊥
    keeps_ends result takes is =
        let has : HasTurn rule takes.count takes.last left taker (Err stops.ScratchFault) =
        subst (EndsAfter rule takes.count takes.last left taker) is takes.end in
        has.turn_is.only.keeps refl

    -- ---- if it is known what the source had left

    module _ (input : List ℕ) (left_is : first.left ≡ Some input) where
      -- a prefix of the lines was printed, and it stopped
      stops_after : (last new : D) (count : ℕ) (proofs : List (List ℕ)) (rest : Option (List ℕ))
          (stop : RunStop)
          → ((next : NextBlock) → (all : Bool) × Telling next now disk told first.taker new
          (map plain (all_proof_lines file 0 proofs)) all)
          → Leads input rest count proofs → (next : NextBlock)
          → Says next now disk told first.taker new (checked_outcome file (framed input)) (Err stop)
      stops_after last new count proofs rest stop lines leads next =
          let others : Framed = framed_from (MAX_FRAMES + 1 - count) leads.rest in
          let pieces = rest_of_lines file proofs others in
          let so_far = lines next in
          record {
            lines = subst (λ (f : Framed). Telling next now disk told first.taker new
                (map plain (checked_outcome file f).pieces) false) (sym leads.same)
                (subst (λ (l : List (List ℕ)). Telling next now disk told first.taker new
                (map plain l)
                false) (sym pieces.1)
                (plain_cut now disk told next first.taker new
                (all_proof_lines file 0 proofs) pieces.0
                so_far.0 so_far.1));
            ending = tt;
          }

      -- all frames were taken
      pub whole_says : (checks : Checks)
          → TakesInput rule first left taker (Ok (inputs.Whole checks)) → (next : NextBlock)
          → (ending : Ending) → ending ≡ light_ending checks.rejected Whole
          → Says next now disk told first.taker taker (checked_outcome file (framed input))
          (Ok ending)
      whole_says checks takes next ending is =
          let p = progress (Ok (inputs.Whole checks)) takes in
          let e = whole_ends input takes.last.left left takes.count p.proofs takes.bound takes.end.0
          (p.leads input left_is) in
          let rejected_is : checks.rejected ≡ rejects_one file p.proofs =
          ap (λ (c : Checks). c.rejected) (takes.end.2 ∙ p.kept) in
          subst (λ (f : Framed). Says next now disk told first.taker taker (checked_outcome file f)
          (Ok ending)) (sym e.same) (record {
            lines = subst (λ (l : List (List ℕ)). Telling next now disk told first.taker taker
                (map plain l) true) (sym (append-nil (all_proof_lines file 0 p.proofs)))
                (subst (λ (t : D). Telling next now disk told first.taker t
                (map plain (all_proof_lines file 0 p.proofs)) true) (sym takes.end.1)
                (p.lines next));
            ending = is ∙ ap (λ (some : Bool). light_ending some Whole) rejected_is;
          })

      pub whole_left : (checks : Checks)
          → TakesInput rule first left taker (Ok (inputs.Whole checks))
          → left ≡ Some (framed input).left
      whole_left checks takes =
          let p = progress (Ok (inputs.Whole checks)) takes in
          let e = whole_ends input takes.last.left left takes.count p.proofs takes.bound takes.end.0
          (p.leads input left_is) in
          e.left_is ∙ ap (λ (f : Framed). Some f.left) (sym e.same)

      -- reading failed, or memory ran out before the next frame
      pub unread_says : (result : Result (InputEnd Checks) (InputStop RunStop)) (stop : RunStop)
          → (takes : TakesInput rule first left taker result) → taker ≡ takes.last.taker
          → (next : NextBlock)
          → Says next now disk told first.taker taker (checked_outcome file (framed input))
          (Err stop)
      unread_says result stop takes same next =
          let p = progress result takes in
          stops_after takes.last.taker taker takes.count p.proofs takes.last.left stop
          (λ next. (
            true,
            subst (λ (t : D). Telling next now disk told first.taker t
                (map plain (all_proof_lines file 0 p.proofs)) true) (sym same) (p.lines next),
          ))
          (p.leads input left_is) next

      -- checking a proof was stopped
      pub stopped_says : (stop : RunStop)
          → TakesInput rule first left taker (Err (stopped.Taker stop)) → (next : NextBlock)
          → Says next now disk told first.taker taker (checked_outcome file (framed input))
          (Err stop)
      stopped_says stop takes next =
          let p = progress (Err (stopped.Taker stop)) takes in
          let has = takes.end in
          stops_after takes.last.taker taker (takes.count + 1)
          (p.proofs ++ has.frame ∷ []) left stop
          (λ next. (
            false,
            more_lines first.taker takes.last.taker taker file p.proofs has.frame false
                next (p.lines next) has.turn_is.leaves_disk.stays
                (own_lines takes.last.taker taker takes.last.chain file p.proofs has.frame false p.kept
                has.turn_is.lines next),
          ))
          (leads_more input takes.last.left left takes.count p.proofs has.frame takes.bound has.read
          (p.leads input left_is)) next

      -- ---- a frame is refused for its form

      record IsRefused (frame : ℕ) (cause : Cause) : Type 0 where
        proofs : List (List ℕ)
        lines : (next : NextBlock) → Telling next now disk told first.taker taker
            (map plain (all_proof_lines file 0 proofs)) true
        ends : Ends input left proofs (Refused frame cause)

      refused_by : (frame : ℕ) (cause : Cause)
          → (takes : TakesInput rule first left taker (Ok (inputs.Refused frame cause)))
          → taker ≡ takes.last.taker
          → (p : Progress first file takes.count takes.last)
          → Ends input left p.proofs (Refused takes.count cause) → IsRefused frame cause
      refused_by frame cause takes same p ends = record {
        proofs = p.proofs;
        lines = λ next. subst (λ (t : D). Telling next now disk told first.taker t
            (map plain (all_proof_lines file 0 p.proofs)) true) (sym same) (p.lines next);
        ends = subst (λ (n : ℕ). Ends input left p.proofs (Refused n cause)) (sym takes.end.0) ends;
      }

      is_refused : (frame : ℕ) (cause : Cause)
          → TakesInput rule first left taker (Ok (inputs.Refused frame cause))
          → IsRefused frame cause
      is_refused frame causes.Truncated takes =
          let p = progress (Ok (inputs.Refused frame causes.Truncated)) takes in
          refused_by frame causes.Truncated takes takes.end.1.1 p
          (truncated_ends input takes.last.left left takes.count p.proofs takes.bound takes.end.1.0
          (p.leads input left_is))
      is_refused frame (causes.Length size) takes =
          let p = progress (Ok (inputs.Refused frame (causes.Length size))) takes in
          refused_by frame (causes.Length size) takes takes.end.1.1 p
          (length_ends input takes.last.left left takes.count size p.proofs takes.bound
          takes.end.1.0 (p.leads input left_is))
      is_refused frame causes.Many takes =
          let p = progress (Ok (inputs.Refused frame causes.Many)) takes in
          refused_by frame causes.Many takes takes.end.1.1 p
          (many_ends input takes.last.left left takes.count p.proofs takes.bound takes.end.1.0
          (p.leads input left_is))
      is_refused frame (causes.Block refusal) takes = absurd takes.end.1.turn_is.goes_on

      -- the line of the refusal was found, and printed, or it was not
      then_line : (new : D) (frame : ℕ) (cause : Cause) (proofs : List (List ℕ))
          (found : Result Outcome OutcomeStop) (result : Result Ending RunStop) (next : NextBlock)
          → Telling next now disk told first.taker taker
          (map plain (all_proof_lines file 0 proofs)) true → Stays now disk taker new
          → IfOk found (λ outcome. outcome
          ≡ outcome_with (refused_line frame cause ∷ []) endings.Refused)
          → Tells next now disk told taker new found result
          → Says next now disk told first.taker new
          (outcome_with (all_proof_lines file 0 proofs ++ refused_line frame cause ∷ [])
          endings.Refused) result
      then_line new frame cause proofs (Ok outcome) result next so_far stays is says =
          let own = subst (λ (o : Outcome). Says next now disk told taker new o result) is says in
          record {
            lines = plain_join now disk told next first.taker taker new
                (all_proof_lines file 0 proofs) (refused_line frame cause ∷ [])
                (is_ok result) so_far
                stays own.lines;
            ending = own.ending;
          }
      then_line new frame cause proofs (Err stop) result next so_far stays is says =
          subst (λ (r : Result Ending RunStop). Says next now disk told first.taker new
          (outcome_with (all_proof_lines file 0 proofs ++ refused_line frame cause ∷ [])
          endings.Refused) r) (sym says.stop_is) (record {
            lines = plain_join now disk told next first.taker taker new
                (all_proof_lines file 0 proofs) (refused_line frame cause ∷ []) false so_far stays
                (none_told next now disk told taker new
                (map plain (refused_line frame cause ∷ [])) says.silent);
            ending = tt;
          })

      pub refused_says : (new : D) (frame : ℕ) (cause : Cause) (found : Result Outcome OutcomeStop)
          (result : Result Ending RunStop)
          → TakesInput rule first left taker (Ok (inputs.Refused frame cause))
          → Stays now disk taker new
          → IfOk found (λ outcome. outcome
          ≡ outcome_with (refused_line frame cause ∷ []) endings.Refused) → (next : NextBlock)
          → Tells next now disk told taker new found result
          → Says next now disk told first.taker new (checked_outcome file (framed input)) result
      refused_says new frame cause found result takes stays is next says =
          let r = is_refused frame cause takes in
          subst (λ (f : Framed). Says next now disk told first.taker new (checked_outcome file f)
          result) (sym r.ends.same)
          (then_line new frame cause r.proofs found result next (r.lines next) stays is says)

      pub refused_left : (frame : ℕ) (cause : Cause)
          → TakesInput rule first left taker (Ok (inputs.Refused frame cause))
          → left ≡ Some (framed input).left
      refused_left frame cause takes =
          let r = is_refused frame cause takes in
          r.ends.left_is ∙ ap (λ (f : Framed). Some f.left) (sym r.ends.same)

-- ---- `light`

module _ {D : Type 0} (now : D → ℕ) (disk : D → ℕ → Option DiskState)
    (told : D → Option (List Tell)) (next : NextBlock) where
  -- nothing was printed
  pub silent_says : (old new : D) (outcome : Outcome) (stop : RunStop) → told new ≡ told old
      → Says next now disk told old new outcome (Err stop)
  silent_says old new outcome stop same = record {
    lines = none_told next now disk told old new (map plain outcome.pieces) same;
    ending = tt;
  }

  -- an outcome was found, and printed, or it was not
  pub found_says : (old new : D) (found : Result Outcome OutcomeStop) (wanted : Outcome)
      (result : Result Ending RunStop) → IfOk found (λ outcome. outcome ≡ wanted)
      → Tells next now disk told old new found result
      → Says next now disk told old new wanted result
  found_says old new (Ok outcome) wanted result is says =
      subst (λ (o : Outcome). Says next now disk told old new o result) is says
  found_says old new (Err stop) wanted result is says = subst
      (λ (r : Result Ending RunStop). Says next now disk told old new wanted r) (sym says.stop_is)
      (silent_says old new wanted (stop_of_outcome stop) says.silent)
