-- What printing one line does, after a look at the disk or without one.
use Rattle.std.proofs.Common.{◌≡◌, ℕ, true, false, List, [], ◌∷◌, refl, sym, ◌∙◌, subst}
use Rattle.std.specs.Prelude.{Option, Result, Ok, Err, is_ok, IsErrOf}
use Rattle.lc_base.specs.Faults.{HasCause}
use Rattle.lc_io.specs.Disk.{DiskState, Stays}
use Rattle.lc_io.specs.Outside.{Tell}
use Rattle.disk_model.specs.Leaving.{LeavesDisk, LeavesWire}
use Rattle.disk_model.proofs.Moments.{stays_here, stays_on}
use Rattle.block_log.specs.Standing.{NextBlock}
use Rattle.cli_promises.specs.Promises.{Promise, IsKeptAt, Telling}
use Rattle.cli_promises.proofs.Tellings.{none_told, told_since}
use Rattle.cli_promises.specs.declared.ending.RunStop.{RunStop}
use Rattle.cli_promises.specs.declared.ending.RunStop.TheVariants as stops
use Rattle.cli_append.specs.Steps.{TellsLine}
use Rattle.cli_append.proofs.Causes.{carried, kept, none_blamed, unblamed}

module _ {D : Type 0} (now : D → ℕ) (disk : D → ℕ → Option DiskState)
    (told : D → Option (List Tell)) (disk_faults wire_faults : D → ℕ) where
  abbrev Tells : D → D → List ℕ → Result (Unit {0}) RunStop → Type 0
  Tells old new text result = TellsLine now disk told disk_faults wire_faults old new text result

  -- it was printed
  pub tells_whole : {B : Type 0} (old new : D) (text : List ℕ)
      → ((next : NextBlock) (promise : Promise) → IsKeptAt next now disk old promise
      → Telling next now disk told old new (record { text = text; promise = promise } ∷ []) true)
      → LeavesDisk now disk disk_faults old new → HasCause (wire_faults old) (wire_faults new) B
      → (B → ⊥) → Tells old new text (Ok tt)
  tells_whole {B} old new text lines left cause none = record {
    lines = lines;
    stays = left.stays;
    disk_fault = none_blamed (disk_faults old) (disk_faults new)
        (IsErrOf {T = Unit {0}} (Ok tt) stops.DiskFault) left.faults (λ b. absurd (cc b));
    untold = none_blamed (wire_faults old) (wire_faults new)
        (IsErrOf {T = Unit {0}} (Ok tt) stops.Untold)
        (unblamed (wire_faults old) (wire_faults new) B cause none) (λ b. absurd (cc b));
    reads = λ b. absurd (cc b);
    keeps = λ b. absurd (cc b);
  }

  -- it was printed in part, or not at all
  pub tells_part : {B : Type 0} (old new : D) (text : List ℕ)
      → ((next : NextBlock) (promise : Promise) → IsKeptAt next now disk old promise
      → Telling next now disk told old new (record { text = text; promise = promise } ∷ []) false)
      → LeavesDisk now disk disk_faults old new → HasCause (wire_faults old) (wire_faults new) B
      → B → Tells old new text (Err stops.Untold)
  tells_part {B} old new text lines left cause blamed = record {
    lines = lines;
    stays = left.stays;
    disk_fault = none_blamed (disk_faults old) (disk_faults new)
        (IsErrOf {T = Unit {0}} (Err stops.Untold) stops.DiskFault) left.faults
        (λ b. absurd (cc b));
    untold = kept (wire_faults old) (wire_faults new) (wire_faults new) B
        (IsErrOf {T = Unit {0}} (Err stops.Untold) stops.Untold) refl cause (λ b. refl)
        (λ b. blamed);
    reads = λ b. absurd (cc b);
    keeps = λ b. absurd (cc b);
  }

  -- memory ran out before
  pub tells_none : (old : D) (text : List ℕ) → Tells old old text (Err stops.Memory)
  tells_none old text = record {
    lines = λ next promise here. none_told next now disk told old old
        (record { text = text; promise = promise } ∷ []) refl;
    stays = stays_here now disk old;
    disk_fault = none_blamed (disk_faults old) (disk_faults old)
        (IsErrOf {T = Unit {0}} (Err stops.Memory) stops.DiskFault) refl (λ b. absurd (cc b));
    untold = none_blamed (wire_faults old) (wire_faults old)
        (IsErrOf {T = Unit {0}} (Err stops.Memory) stops.Untold) refl (λ b. absurd (cc b));
    reads = λ b. absurd (cc b);
    keeps = λ b. absurd (cc b);
  }

  -- the look failed, so nothing was printed
  pub tells_fault : {B : Type 0} (old new : D) (text : List ℕ) → Stays now disk old new
      → LeavesWire told wire_faults old new → HasCause (disk_faults old) (disk_faults new) B → B
      → Tells old new text (Err stops.DiskFault)
  tells_fault {B} old new text stays wire cause blamed = record {
    lines = λ next promise here. none_told next now disk told old new
        (record { text = text; promise = promise } ∷ []) wire.told;
    stays = stays;
    disk_fault = kept (disk_faults old) (disk_faults new) (disk_faults new) B
        (IsErrOf {T = Unit {0}} (Err stops.DiskFault) stops.DiskFault) refl cause (λ b. refl)
        (λ b. blamed);
    untold = none_blamed (wire_faults old) (wire_faults new)
        (IsErrOf {T = Unit {0}} (Err stops.DiskFault) stops.Untold) wire.faults
        (λ b. absurd (cc b));
    reads = λ b. absurd (cc b);
    keeps = λ b. absurd (cc b);
  }

  -- it was printed, or wasn't, after a look that didn't fail
  pub tells_after : {B : Type 0} (old mid new : D) (text : List ℕ)
      (result : Result (Unit {0}) RunStop) → Stays now disk old mid
      → LeavesWire told wire_faults old mid → HasCause (disk_faults old) (disk_faults mid) B
      → (B → ⊥) → Tells mid new text result → Tells old new text result
  tells_after {B} old mid new text result stays wire cause none tells = record {
    lines = λ next promise here. told_since next now disk told old mid new
        (record { text = text; promise = promise } ∷ []) (is_ok result) wire.told
        (tells.lines next promise (λ s image at shows. here s image (sym stays.last ∙ at) shows));
    stays = stays_on now disk old mid new stays tells.stays;
    disk_fault = carried (disk_faults old) (disk_faults mid) (disk_faults new)
        (IsErrOf result stops.DiskFault) (IsErrOf result stops.DiskFault)
        (unblamed (disk_faults old) (disk_faults mid) B cause none) tells.disk_fault (λ b. b)
        (λ b. b);
    untold = carried (wire_faults old) (wire_faults mid) (wire_faults new)
        (IsErrOf result stops.Untold) (IsErrOf result stops.Untold) wire.faults tells.untold
        (λ b. b) (λ b. b);
    reads = tells.reads;
    keeps = tells.keeps;
  }

  -- a line of the same text
  pub tells_text : (old new : D) (bytes text : List ℕ) (result : Result (Unit {0}) RunStop)
      → bytes ≡ text → Tells old new bytes result → Tells old new text result
  tells_text old new bytes text result is =
      subst (λ (b : List ℕ). Tells old new b result) is
