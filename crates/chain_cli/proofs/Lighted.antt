-- Runs of `light make` and of `light`: they print their output.
use Rattle.std.proofs.Common.{◌≡◌, ℕ, Bool, true, false, List, Option, Some, Result, Ok, Err}
use Rattle.std.proofs.Common.{refl}
use Rattle.std.proofs.Common.{ap, ◌∙◌, map}
use Rattle.std.specs.Prelude.{IfOk}
use Rattle.lc_io.specs.Disk.{DiskState, Stays}
use Rattle.lc_io.specs.Outside.{Tell}
use Rattle.disk_model.specs.Disk.{IsSettled, content_of}
use Rattle.lc_base.specs.declared.digest.Digest.{Digest}
use Rattle.lc_base.specs.declared.row.Row.{Row}
use Rattle.block_codec.specs.Reading.{block_in}
use Rattle.block_codec.specs.Placement.{digest_of}
use Rattle.block_log.specs.Standing.{standing}
use Rattle.cli_proofs.specs.Exposing.{ledger_kept}
use Rattle.chain_exec.specs.Compiled.{compiled_in}
use Rattle.chain_exec.specs.Effect.{History}
use Rattle.chain_exec.specs.Replay.{replay}
use Rattle.merkle_dag.specs.Ledger.{Ledger}
use Rattle.chain_replay.specs.Chain.{ChainState}
use Rattle.cli_append.specs.recovery.Node.{IsChainStored, next_in_chain}
use Rattle.cli_append.specs.cli_promises.declared.ending.RunStop.{RunStop}
use Rattle.cli_lines.specs.Outcome.{outcome_with}
use Rattle.cli_lines.specs.declared.outcome.Outcome.{Outcome}
use Rattle.cli_lines.specs.declared.outcome.Ending.{Ending}
use Rattle.cli_lines.specs.declared.outcome.Ending.TheVariants as endings
use Rattle.cli_words.specs.declared.words.Command.TheVariants.{MakeLight, Light}
use Rattle.light_client.specs.Format.{light_in}
use Rattle.cli_output.specs.Lights.{light_pieces}
use Rattle.cli_output.specs.Output.{output_of, light_outcome, light_left}
use Rattle.cli_output.specs.Running.{IsRun, leaves}
use Rattle.cli_output.specs.Scanning.{IsFoundOver}
use Rattle.cli_output.specs.Telling.{Says, status_of_result}
use Rattle.cli_output.specs.declared.stop.OutcomeStop.{OutcomeStop}
use Rattle.cli_output.proofs.Found.{asked_found, left_given}
use Rattle.cli_output.proofs.Meets.{ended_met, left_read, rests_given, told_input}
use Rattle.chain_cli.proofs.Runs.{found_run}

-- ---- `light make`

-- what was found for it: the light file of a ledger
abbrev pub light_found : List Row → List Digest → Result Outcome OutcomeStop
light_found rows digests = Ok (outcome_with (light_pieces rows digests) endings.Done)

-- the light file of what is kept of a chain is that of its blocks
light_over : (kept : ChainState) (rows : List Row) (digests : List Digest)
    (left : Option (List ℕ)) → record { rows = rows; digests = digests } ≡ ledger_kept kept
    → IsFoundOver kept left left MakeLight (light_found rows digests)
light_over kept rows digests left same input given blocks stands =
    let kept_are : light_pieces rows digests ≡ light_pieces kept.rows kept.digests =
    ap (λ (l : Ledger). light_pieces l.rows l.digests) same in
    let are : light_pieces kept.rows kept.digests
    ≡ light_pieces (replay compiled_in blocks).rows (map digest_of blocks) =
    ap (λ (d : List Digest). light_pieces kept.rows d) stands.digests_are
    ∙ ap (λ (h : History). light_pieces h.rows (map digest_of blocks)) stands.history_is in (
      input,
      left_given false left input given,
      ap (λ (p : List (List ℕ)). output_of (outcome_with p endings.Done) input) (kept_are ∙ are),
    )

-- what is left of a known input at the end
left_at_end : (result : Result Ending RunStop) (left_old left_new : Option (List ℕ))
    (input rest : List ℕ) → left_old ≡ Some input → IfOk result (λ ending. left_new ≡ Some rest)
    → IfOk result (λ ending. left_new ≡ leaves left_old rest)
left_at_end (Ok ending) left_old left_new input rest is left =
    left ∙ left_read left_old input rest is
left_at_end (Err stop) left_old left_new input rest is left = tt

module _ {D : Type 0} (now : D → ℕ) (disk : D → ℕ → Option DiskState)
    (told : D → Option (List Tell)) where
  pub make_light_run : (old mid new : D) (kept : ChainState) (rows : List Row)
      (digests : List Digest) (result : Result Ending RunStop) (left : Option (List ℕ))
      (held : Bool) → IsSettled (disk old (now old)) → Stays now disk old mid
      → told mid ≡ told old → Stays now disk mid new
      → record { rows = rows; digests = digests } ≡ ledger_kept kept
      → (held ≡ true → (content : List ℕ) → content_of (disk old (now old)) ≡ Some content
      → IsChainStored (standing next_in_chain content) (Ok kept))
      → Says next_in_chain now disk told mid new
      (outcome_with (light_pieces rows digests) endings.Done) result
      → IsRun now disk told old new (status_of_result result) left left held block_in compiled_in
      (Some MakeLight)
  make_light_run old mid new kept rows digests result left held settled begins same stays ledger
      started says =
      found_run now disk told old mid new (Some MakeLight) (light_found rows digests) result left
      left held refl settled begins same stays says
      (asked_found (disk old (now old)) MakeLight kept (light_found rows digests) left left held
      refl
      (λ heard. started (heard refl)) (λ heard. light_over kept rows digests left ledger))

  -- ---- `light`

  pub light_run : (old new : D) (result : Result Ending RunStop)
      (left_old left_new : Option (List ℕ)) (held : Bool) → IsSettled (disk old (now old))
      → Stays now disk old new
      → ((input : List ℕ) → left_old ≡ Some input
      → Says next_in_chain now disk told old new (light_outcome (light_in input)) result)
      → ((input : List ℕ) → left_old ≡ Some input
      → IfOk result (λ ending. left_new ≡ Some (light_left input (light_in input))))
      → IsRun now disk told old new (status_of_result result) left_old left_new held block_in
      compiled_in (Some Light)
  light_run old new result left_old left_new held settled stays says left heard input content
      given_input given =
      let left_is = told_input left_old input given_input in
      let rest : List ℕ = light_left input (light_in input) in (
        output_of (light_outcome (light_in input)) rest,
        refl,
        ended_met now disk told old new content (light_outcome (light_in input)) result left_old
            left_new rest (rests_given false (disk old (now old)) content settled given) stays
            (says input left_is) (left_at_end result left_old left_new input rest left_is
            (left input left_is)),
      )
