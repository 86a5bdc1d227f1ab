-- What the parts of `light` do, by the definition of what it prints.
use Rattle.std.specs.Prelude.{◌≡◌, ◌+◌, ◌-◌, ◌^◌, min, ℕ, Bool, ◌||◌, is_err, is_ok, List, map}
use Rattle.std.specs.Prelude.{Option, Result, Ok, Err, IsErrOf}
use Rattle.lc_base.specs.Faults.{HasCause}
use Rattle.lc_io.specs.Disk.{DiskState}
use Rattle.lc_io.specs.Outside.{Tell}
use Rattle.disk_model.specs.Leaving.{LeavesDisk}
use Rattle.block_log.specs.Standing.{NextBlock}
use Rattle.cli_output.specs.cli_promises.Promises.{plain, Telling}
use Rattle.chain_input.specs.declared.taking.Turn.{Turn}
use Rattle.chain_input.specs.declared.taking.Turn.TheVariants as turns
use Rattle.cli_output.specs.light_client.Checking.{LightAnswer, light_verdict}
use Rattle.cli_output.specs.light_client.declared.reject.LightReject.{LightReject}
use Rattle.cli_output.specs.cli_promises.declared.ending.RunStop.{RunStop}
use Rattle.cli_output.specs.cli_promises.declared.ending.RunStop.TheVariants as stops
use Rattle.cli_output.specs.Lights.{proof_lines}
use Rattle.cli_output.specs.Telling.{OnlyTells}
use Rattle.cli_proofs.specs.declared.taking.Checks.{Checks}

-- What is kept after a proof: it is counted, up to 2^32 - 1, and it is known if one was rejected.
abbrev pub after_proof : Checks → Bool → Checks
after_proof checks rejected = record {
  file = checks.file;
  count = min (checks.count + 1) (2 ^ 32 - 1);
  rejected = checks.rejected || rejected;
}

-- The lines of a proof with this verdict, and whether it was rejected.
pub record IsJudged (index : ℕ) (verdict : Result LightAnswer LightReject) (lines : List (List ℕ))
    (rejected : Bool) : Type 0 where
  pub lines_are : lines ≡ proof_lines index verdict
  pub rejected_is : rejected ≡ is_err verdict

-- After a proof with this verdict it goes on to the next one.
abbrev pub GoesOnAfter : Checks → Result LightAnswer LightReject → Result (Turn Checks) RunStop
    → Type 0
GoesOnAfter checks verdict (Ok (turns.Taken later)) = later ≡ after_proof checks (is_err verdict)
GoesOnAfter checks verdict (Ok (turns.Refused refusal)) = ⊥
GoesOnAfter checks verdict (Err stop) = Unit {0}

-- A proof was checked, and its lines printed.
pub record ChecksProof {D : Type 0} (now : D → ℕ) (disk : D → ℕ → Option DiskState)
    (told : D → Option (List Tell)) (disk_faults wire_faults : D → ℕ) (old : D) (checks : Checks)
    (proof : List ℕ) (new : D) (result : Result (Turn Checks) RunStop) : Type 0 where
  pub lines : (next : NextBlock) → Telling next now disk told old new
      (map plain (proof_lines checks.count (light_verdict checks.file proof))) (is_ok result)
  pub goes_on : GoesOnAfter checks (light_verdict checks.file proof) result
  pub leaves_disk : LeavesDisk now disk disk_faults old new
  pub untold : HasCause (wire_faults old) (wire_faults new) (IsErrOf result stops.Untold)
  pub only : OnlyTells result
