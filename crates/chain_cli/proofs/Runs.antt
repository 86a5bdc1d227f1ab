-- What is found for each command, and whole runs: they have the output of their command.
use Rattle.std.proofs.Common.{◌≡◌, ℕ, Bool, true, false, cond, List, [], ◌∷◌, map, Option, Some}
use Rattle.std.proofs.Common.{None, Result, Ok, Err, refl, sym, ap, ◌∙◌, subst}
use Rattle.std.specs.Prelude.{IfOk, IfSome, is_ok}
use Rattle.lc_io.specs.Disk.{DiskState, Stays}
use Rattle.lc_io.specs.Outside.{Tell}
use Rattle.disk_model.specs.Disk.{IsSettled, Rests}
use Rattle.disk_model.proofs.Moments.{stays_on}
use Rattle.lc_base.specs.declared.answer.Query.{Query}
use Rattle.lc_base.specs.declared.digest.Digest.{Digest}
use Rattle.block_codec.specs.Reading.{block_in}
use Rattle.block_codec.specs.declared.block.Block.{Block}
use Rattle.block_log.specs.Standing.{standing}
use Rattle.chain_exec.specs.Compiled.{compiled_in}
use Rattle.chain_replay.specs.Chain.{ChainState, StandsFor, placement_in}
use Rattle.chain_input.specs.Folding.{fold_input}
use Rattle.cli_append.specs.recovery.Node.{next_in_chain}
use Rattle.cli_append.specs.cli_promises.Promises.{plain, NoChange, Telling}
use Rattle.cli_append.specs.cli_promises.declared.ending.RunStop.{RunStop}
use Rattle.chain_pack.specs.Generator.{blocks_of_seed}
use Rattle.cli_words.specs.declared.words.Generation.{Generation}
use Rattle.cli_words.specs.declared.words.Command.{Command}
use Rattle.cli_words.specs.declared.words.BlockVersion.{BlockVersion}
use Rattle.cli_words.specs.declared.words.Edition.{Edition}
use Rattle.cli_words.specs.declared.words.Command.TheVariants.{Scan, Fmt, Pack, Gen, Load, Append}
use Rattle.cli_words.specs.declared.words.Command.TheVariants.{Follow, Upgrade, Root, Ask, Prove}
use Rattle.cli_words.specs.declared.words.Command.TheVariants.{Verify, Expose, MakeLight, Light}
use Rattle.cli_words.specs.declared.question.Question.{Question}
use Rattle.cli_lines.specs.Lines.{usage_line}
use Rattle.cli_lines.specs.Outcome.{outcome_with}
use Rattle.cli_lines.specs.declared.outcome.Outcome.{Outcome}
use Rattle.cli_lines.specs.declared.outcome.Ending.{Ending}
use Rattle.cli_lines.specs.declared.outcome.Ending.TheVariants as endings
use Rattle.cli_lines.specs.declared.status.Status.{Status}
use Rattle.cli_output.specs.Blocks.{frame}
use Rattle.cli_output.specs.Output.{Output, output_of, usage_output, scan_output, pack_output}
use Rattle.cli_output.specs.Output.{gen_output, load_outcome, on_log, ask_outcome, root_outcome}
use Rattle.cli_output.specs.Output.{prove_outcome, question_in, at_or_last, make_light_outcome}
use Rattle.cli_output.specs.Output.{edition_number, version_number, IsFmtOutput, Long, Source}
use Rattle.cli_output.specs.Output.{IsVerifyOutput}
use Rattle.cli_output.specs.Output.{LongProof, Verified, IsExposeOutput, Wants}
use Rattle.cli_output.specs.Uses.{changes_log, uses_disk}
use Rattle.cli_output.specs.Running.{leaves, Meets, IsGiven, IsRun}
use Rattle.cli_output.specs.Scanning.{GivesAny, GivesFrom, GivesOutput, IsFmtOutcome}
use Rattle.cli_output.specs.Scanning.{IsVerifyOutcome, IsExposeOutcome, IsFoundFor, IsFoundOver}
use Rattle.cli_output.specs.Telling.{status_of_result, status_of_usage, Tells, stop_of_outcome}
use Rattle.cli_output.specs.declared.stop.OutcomeStop.{OutcomeStop}
use Rattle.chain_cli.proofs.OneOutput.{some_output}
use Rattle.cli_output.proofs.Exposed.{expose_no_change}
use Rattle.cli_output.proofs.Found.{read_found, unread_found}
use Rattle.cli_output.proofs.Meets.{stop_stops, left_same, rests_given, on_log_no_change}
use Rattle.cli_output.proofs.Meets.{is_on_log_no_change, same_may_leave, of_blocks, content_stays}
use Rattle.cli_output.proofs.Meets.{quiet_images, said_met, silent_met, says_since}

-- ---- changes

fmt_no_change : (edition : ℕ) (input : List ℕ) (output : Output) → IsFmtOutput edition input output
    → output.change ≡ NoChange
fmt_no_change edition input _ (Long long) = refl
fmt_no_change edition input _ (Source fits outcome is) = refl

verify_no_change : (root : List ℕ) (question : Question) (input : List ℕ) (output : Output)
    → IsVerifyOutput root question input output → output.change ≡ NoChange
verify_no_change root question input _ (LongProof long) = refl
verify_no_change root question input _ (Verified fits told is) = refl

-- a question over the blocks of the log has no output that changes it
asked_no_change : (wanted : List Block → Outcome) (input content : List ℕ) (output : Output)
    → output ≡ on_log (λ logged. output_of (wanted logged.blocks) input) input
    (standing next_in_chain content)
    → output.change ≡ NoChange
asked_no_change wanted input content output is = ap (λ (o : Output). o.change) is
    ∙ on_log_no_change (λ logged. output_of (wanted logged.blocks) input) (λ logged. refl) input
    (standing next_in_chain content)

pack_no_change : (long : Bool) (a b : Output) → a.change ≡ NoChange → b.change ≡ NoChange
    → (cond long a b).change ≡ NoChange
pack_no_change true a b is_a is_b = is_a
pack_no_change false a b is_a is_b = is_b

-- a command that does not change the log has no output that does
no_change : (command : Option Command) (input content : List ℕ) (output : Output)
    → changes_log command ≡ false → Wants block_in compiled_in command input content output
    → output.change ≡ NoChange
no_change None input content output quiet is = ap (λ (o : Output). o.change) is
no_change (Some (Scan query)) input content output quiet is = ap (λ (o : Output). o.change) is
no_change (Some (Fmt edition)) input content output quiet is = fmt_no_change
    (edition_number edition) input output is
no_change (Some (Pack version)) input content output quiet is = ap (λ (o : Output). o.change) is
    ∙ pack_no_change _ _ _ refl refl
no_change (Some (Gen generation)) input content output quiet is = ap (λ (o : Output). o.change) is
no_change (Some (Load generation)) input content output quiet is = ap (λ (o : Output). o.change) is
no_change (Some Append) input content output quiet is = absurd (cc quiet)
no_change (Some Follow) input content output quiet is = absurd (cc quiet)
no_change (Some Upgrade) input content output quiet is = absurd (cc quiet)
no_change (Some (Root at)) input content output quiet is = asked_no_change
    (λ blocks. root_outcome compiled_in (at_or_last at blocks) blocks) input content output is
no_change (Some (Ask asked)) input content output quiet is = asked_no_change
    (λ blocks. ask_outcome compiled_in (question_in asked blocks) blocks) input content output is
no_change (Some (Prove question root_at)) input content output quiet is =
    asked_no_change (prove_outcome compiled_in question root_at) input content output is
no_change (Some (Verify root question)) input content output quiet is =
    verify_no_change root.0 question input output is
no_change (Some MakeLight) input content output quiet is =
    asked_no_change (make_light_outcome compiled_in) input content output is
no_change (Some Light) input content output quiet is = ap (λ (o : Output). o.change) is
no_change (Some (Expose root query root_at)) input content output quiet is = is_on_log_no_change
    (λ logged. IsExposeOutput compiled_in root.0 query root_at input logged.blocks)
    (λ logged. expose_no_change compiled_in root.0 query root_at input logged.blocks) input
    (standing next_in_chain content) output is

-- ---- what is found for each command

gives : (found : Result Outcome OutcomeStop) (left_new : Option (List ℕ)) (wanted : Output)
    → IfOk found (λ outcome. GivesOutput outcome left_new wanted)
    → IfOk found (λ outcome. GivesAny (λ output. output ≡ wanted) outcome left_new)
gives (Ok outcome) left_new wanted (is, left) = (wanted.left, left, sym is)
gives (Err stop) left_new wanted is = tt

gives_here : (wanted : List ℕ → Output) (found : Result Outcome OutcomeStop)
    (left_old left_new : Option (List ℕ))
    → IfSome left_old (λ input. IfOk found (λ outcome. GivesOutput outcome left_new (wanted input)))
    → IfSome left_old (λ input. IfOk found
    (λ outcome. GivesAny (λ output. output ≡ wanted input) outcome left_new))
gives_here wanted found None left_new is = tt
gives_here wanted found (Some input) left_new is = gives found left_new (wanted input) is

module _ (state : Option DiskState) (found : Result Outcome OutcomeStop)
    (left_old left_new : Option (List ℕ)) (held : Bool) where
  pub scan_found : (query : Query)
      → IfSome left_old (λ input. IfOk found
      (λ outcome. GivesOutput outcome left_new
      (scan_output compiled_in query (fold_input block_in (placement_in compiled_in) input))))
      → IsFoundFor state left_old left_new held (Some (Scan query)) found
  scan_found query is heard input content given_input given =
      let wanted : List ℕ → Output = λ input.
      scan_output compiled_in query (fold_input block_in (placement_in compiled_in) input) in
      read_found (λ input output. output ≡ wanted input) found left_old left_new
      (gives_here wanted found left_old left_new is) input given_input

  pub pack_found : (version : BlockVersion) → IfSome left_old (λ input. IfOk found
      (λ outcome. GivesOutput outcome left_new (pack_output (version_number version) input)))
      → IsFoundFor state left_old left_new held (Some (Pack version)) found
  pack_found version is heard input content given_input given =
      let wanted = pack_output (version_number version) in
      read_found (λ input output. output ≡ wanted input) found left_old left_new
      (gives_here wanted found left_old left_new is) input given_input

  pub fmt_found : (edition : Edition) → IfSome left_old (λ input. IfOk found
      (λ outcome. IsFmtOutcome (edition_number edition) outcome left_new input))
      → IsFoundFor state left_old left_new held (Some (Fmt edition)) found
  fmt_found edition is heard input content given_input given =
      read_found (IsFmtOutput (edition_number edition)) found left_old left_new is input given_input

  pub verify_found : (root : Digest) (question : Question) → IfSome left_old (λ input. IfOk found
      (λ outcome. IsVerifyOutcome root.0 question outcome left_new input))
      → IsFoundFor state left_old left_new held (Some (Verify root question)) found
  verify_found root question is heard input content given_input given =
      read_found (IsVerifyOutput root.0 question) found left_old left_new is input given_input

  pub of_found : (command given : Command) → command ≡ given
      → IsFoundFor state left_old left_new held (Some given) found
      → IsFoundFor state left_old left_new held (Some command) found
  of_found command given is right = subst
      (λ (c : Command). IsFoundFor state left_old left_new held (Some c) found) (sym is) right

pub load_found : (state : Option DiskState) (generation : Generation)
    (found : Result Outcome OutcomeStop) (left : Option (List ℕ)) (held : Bool)
    → (held ≡ true → IfOk found (λ outcome. outcome ≡ load_outcome compiled_in generation))
    → IsFoundFor state left left held (Some (Load generation)) found
load_found state generation found left held is heard input content given_input given =
    unread_found (load_outcome compiled_in generation) found false left input given_input
    (is (heard refl))

-- ---- what is found over the blocks of the log

module _ (kept : ChainState) (found : Result Outcome OutcomeStop) where
  -- a question that reads no input
  pub asked_over : (wanted : List Block → Outcome) (left : Option (List ℕ))
      → IfOk found (λ outcome. (blocks : List Block) → StandsFor kept blocks
      → outcome ≡ wanted blocks)
      → (input : List ℕ) → IsGiven false left input → (blocks : List Block)
      → StandsFor kept blocks
      → IfOk found (GivesFrom (λ output. output ≡ output_of (wanted blocks) input) left left)
  asked_over wanted left is input given blocks stands =
      unread_found (wanted blocks) found false left input given
      (of_blocks found (StandsFor kept) (λ b o. o ≡ wanted b) is blocks stands)

  every_block : (root : Digest) (query : Query) (root_at : ℕ) (left_old left_new : Option (List ℕ))
      (blocks : List Block) → StandsFor kept blocks
      → IfSome left_old (λ input. IfOk found (λ outcome. (blocks : List Block)
      → StandsFor kept blocks → IsExposeOutcome root.0 query root_at blocks outcome left_new input))
      → IfSome left_old (λ input. IfOk found
      (λ outcome. IsExposeOutcome root.0 query root_at blocks outcome left_new input))
  every_block root query root_at None left_new blocks stands is = tt
  every_block root query root_at (Some input) left_new blocks stands is = of_blocks found
      (StandsFor kept)
      (λ b o. IsExposeOutcome root.0 query root_at b o left_new input) is blocks stands

  pub expose_over : (root : Digest) (query : Query) (root_at : ℕ)
      (left_old left_new : Option (List ℕ))
      → IfSome left_old (λ input. IfOk found (λ outcome. (blocks : List Block)
      → StandsFor kept blocks → IsExposeOutcome root.0 query root_at blocks outcome left_new input))
      → IsFoundOver kept left_old left_new (Expose root query root_at) found
  expose_over root query root_at left_old left_new is input given blocks stands =
      read_found (λ i. IsExposeOutput compiled_in root.0 query root_at i blocks) found left_old
      left_new (every_block root query root_at left_old left_new blocks stands is) input given

  pub of_over : (left_old left_new : Option (List ℕ)) (command given : Command) → command ≡ given
      → IsFoundOver kept left_old left_new given found
      → IsFoundOver kept left_old left_new command found
  of_over left_old left_new command given is right = subst
      (λ (c : Command). IsFoundOver kept left_old left_new c found) (sym is) right

module _ {D : Type 0} (now : D → ℕ) (disk : D → ℕ → Option DiskState)
    (told : D → Option (List Tell)) where
  -- ---- words that are no command, and `gen`

  usage_met : {T : Type 0} (old new : D) (result : Result T RunStop) (left : Option (List ℕ))
      (input content : List ℕ) → Rests (disk old (now old)) (λ c. c ≡ content)
      → Stays now disk old new → left ≡ leaves left input
      → Telling next_in_chain now disk told old new (plain usage_line ∷ []) (is_ok result)
      → Meets next_in_chain now disk told old new (status_of_usage result) left left content
      (usage_output input)
  usage_met old new (Ok x) left input content rests stays left_is lines = record {
    lines = lines;
    images = content_stays now disk told old new content rests stays;
    unwritten = λ e none. stays;
    ended = λ e. record {
      status_is = refl;
      left_is = left_is;
      log = subst
          (λ (o : Option DiskState). Rests o (λ c. c ≡ content)) (sym stays.last) rests;
    };
  }
  usage_met old new (Err stop) left input content rests stays left_is lines =
      let halts = stop_stops stop in
      record {
        lines = subst (λ (all : Bool). Telling next_in_chain now disk told old new
            (plain usage_line ∷ []) all) (sym halts) lines;
        images = content_stays now disk told old new content rests stays;
        unwritten = λ e none. stays;
        ended = λ e. absurd (cc (halts, e));
      }

  pub usage_run : {T : Type 0} (old new : D) (result : Result T RunStop) (left : Option (List ℕ))
      (held : Bool) → IsSettled (disk old (now old)) → Stays now disk old new
      → Telling next_in_chain now disk told old new (plain usage_line ∷ []) (is_ok result)
      → IsRun now disk told old new (status_of_usage result) left left held block_in compiled_in
      None
  usage_run old new result left held settled stays lines heard input content given_input given = (
    usage_output input,
    refl,
    usage_met old new result left input content
        (rests_given false (disk old (now old)) content settled given) stays
        (left_same left input given_input) lines,
  )

  pub gen_run : (old new : D) (generation : Generation) (result : Result Ending RunStop)
      (left : Option (List ℕ)) (held : Bool) → IsSettled (disk old (now old))
      → Stays now disk old new
      → Telling next_in_chain now disk told old new
      (map plain (map frame (blocks_of_seed generation.blocks generation.seed))) (is_ok result)
      → IfOk result (λ ending. ending ≡ endings.Done)
      → IsRun now disk told old new (status_of_result result) left left held block_in compiled_in
      (Some (Gen generation))
  gen_run old new generation result left held settled stays lines ending heard input content
      given_input given = (
        gen_output generation input,
        refl,
        said_met now disk told old new content
            (outcome_with (map frame (blocks_of_seed generation.blocks generation.seed))
            endings.Done) result
            left left input (rests_given false (disk old (now old)) content settled given) stays
            (record { lines = lines; ending = ending }) (left_same left input given_input),
      )

  pub of_command : (old new : D) (status : Status) (left_old left_new : Option (List ℕ))
      (held : Bool) (command given : Command) → command ≡ given
      → IsRun now disk told old new status left_old left_new held block_in compiled_in (Some given)
      → IsRun now disk told old new status left_old left_new held block_in compiled_in
      (Some command)
  of_command old new status left_old left_new held command given is run = subst
      (λ (c : Command). IsRun now disk told old new status left_old left_new held block_in
      compiled_in (Some c)) (sym is) run

  -- ---- whole runs

  -- what was found for a command that leaves the log as it is, and printed
  pub found_run : (old mid new : D) (command : Option Command) (found : Result Outcome OutcomeStop)
      (result : Result Ending RunStop) (left_old left_new : Option (List ℕ)) (held : Bool)
      → changes_log command ≡ false → IsSettled (disk old (now old)) → Stays now disk old mid
      → told mid ≡ told old → Stays now disk mid new
      → Tells next_in_chain now disk told mid new found result
      → IsFoundFor (disk old (now old)) left_old left_new held command found
      → IsRun now disk told old new (status_of_result result) left_old left_new held block_in
      compiled_in command
  found_run old mid new command (Ok outcome) result left_old left_new held quiet settled begins same
      stays says is heard input content given_input given =
      let from = is heard input content given_input given in (
        output_of outcome from.0,
        from.2,
        said_met now disk told old new content outcome result left_old left_new from.0
            (rests_given (uses_disk command) (disk old (now old)) content settled given)
            (stays_on now disk old mid new begins stays)
            (says_since now disk told old mid new outcome result same says) from.1,
      )
  found_run old mid new command (Err stop) result left_old left_new held quiet settled begins same
      stays says is heard input content given_input given =
      let some = some_output command input content in (
        some.0,
        some.1,
        silent_met now disk told old new content some.0 (stop_of_outcome stop) result left_old
            left_new
            (quiet_images now disk told old new content some.0.change
            (rests_given (uses_disk command) (disk old (now old)) content settled given)
            (stays_on now disk old mid new begins stays)
            (λ c at. same_may_leave content some.0.change c
            (no_change command input content some.0 quiet some.1) at))
            (record { stop_is = says.stop_is; silent = says.silent ∙ same }),
      )

  pub with_status : (old new : D) (status answer : Status) (left_old left_new : Option (List ℕ))
      (held : Bool) (given command : Option Command) → status ≡ answer → command ≡ given
      → IsRun now disk told old new status left_old left_new held block_in compiled_in given
      → IsRun now disk told old new answer left_old left_new held block_in compiled_in command
  with_status old new status answer left_old left_new held given command is same run =
      subst (λ (c : Option Command). IsRun now disk told old new answer left_old left_new held
      block_in compiled_in c) (sym same)
      (subst (λ (s : Status). IsRun now disk told old new s left_old left_new held block_in
      compiled_in given) is run)
