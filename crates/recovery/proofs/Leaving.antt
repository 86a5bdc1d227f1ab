-- What reading a log does to its machine, and running its blocks to the scratch device, call by
-- call.
use Rattle.std.proofs.Common.{◌≡◌, ℕ, Bool, true, false, true≢false, refl, sym, ap, subst, ◌∙◌}
use Rattle.std.proofs.Common.{arith}
use Rattle.std.specs.Prelude.{Option, Result, Ok, Err, IsErrOf, is_ok}
use Rattle.lc_base.specs.Faults.{HasCause}
use Rattle.lc_base.specs.declared.host_error.HostError.{HostError}
use Rattle.lc_base.specs.declared.host_error.HostError.TheVariants as hosts
use Rattle.lc_io.specs.Disk.{DiskState, Stays}
use Rattle.lc_io.specs.Scratch.{ScratchState, Retains}
use Rattle.lc_io.proofs.Retaining.{retains_trans}
use Rattle.disk_model.proofs.Moments.{stays_on}
use Rattle.block_log.specs.declared.error.LogError.{LogError}
use Rattle.block_log.specs.declared.error.LogError.TheVariants as logs
use Rattle.recovery.specs.Restoring.{ReadsLog, RunsOn, start_error}
use Rattle.recovery.specs.declared.errors.StartError.{StartError}
use Rattle.recovery.specs.declared.errors.StartError.TheVariants as starts

-- calls that cannot blame leave the count as it was
pub none_blamed : (before now : ℕ) (B : Type 0) → now ≡ before → (B → ⊥) → HasCause before now B
none_blamed before now B same never = record {
  later = omega (arith, same);
  failed = λ blames. absurd (never blames);
  told = λ differ. absurd (differ same);
}

-- what the last call blames, all blame, if they blame for the same and those before it left the
-- count as it was
pub last_blamed : (before mid now : ℕ) (B C : Type 0) → mid ≡ before → HasCause mid now B
    → (B → C) → (C → B) → HasCause before now C
last_blamed before mid now B C same cause there back =
    subst (λ (n : ℕ). HasCause n now C) same
    (record {
      later = cause.later;
      failed = λ blames. cause.failed (back blames);
      told = λ differ. there (cause.told differ);
    })

-- ---- whom a result blames

-- a call that ends well blames nobody
pub ok_spares : {T E : Type 0} {x : T} {e : E} → IsErrOf {T = T} (Ok x) e → ⊥
ok_spares both = true≢false (ap is_ok both)

abbrev error_in : {T E : Type 0} → E → Result T E → E
error_in other (Ok x) = other
error_in other (Err e) = e

same_error : {T E : Type 0} (a b : E) → IsErrOf {T = T} (Err a) b → a ≡ b
same_error {T} {E} a b both = ap (error_in {T = T} a) both

abbrev is_fault : {T : Type 0} → Result T HostError → Bool
is_fault (Ok x) = false
is_fault (Err hosts.Fault) = true
is_fault (Err hosts.Memory) = false

-- want of memory blames no device
pub host_spares : {T : Type 0} → IsErrOf {T = T} (Err hosts.Memory) hosts.Fault → ⊥
host_spares {T} both = true≢false (sym (ap (is_fault {T = T}) both))

abbrev pub is_disk : StartError → Bool
is_disk starts.NotALog = false
is_disk (starts.Damaged at) = false
is_disk starts.DiskFault = true
is_disk starts.ScratchFault = false
is_disk starts.Memory = false

abbrev pub is_scratch : StartError → Bool
is_scratch starts.NotALog = false
is_scratch (starts.Damaged at) = false
is_scratch starts.DiskFault = false
is_scratch starts.ScratchFault = true
is_scratch starts.Memory = false

pub disk_spared : {T : Type 0} (error : StartError) → is_disk error ≡ false
    → IsErrOf {T = T} (Err error) starts.DiskFault → ⊥
disk_spared {T} error other both =
    true≢false (sym (ap is_disk (same_error {T = T} error starts.DiskFault both)) ∙ other)

pub scratch_spared : {T : Type 0} (error : StartError) → is_scratch error ≡ false
    → IsErrOf {T = T} (Err error) starts.ScratchFault → ⊥
scratch_spared {T} error other both =
    true≢false (sym (ap is_scratch (same_error {T = T} error starts.ScratchFault both)) ∙ other)

only_disk : (failed : LogError) → start_error failed ≡ starts.DiskFault → failed ≡ logs.DiskFault
only_disk logs.NotALog is = absurd (true≢false (sym (ap is_disk is)))
only_disk (logs.Damaged at) is = absurd (true≢false (sym (ap is_disk is)))
only_disk logs.DiskFault is = refl
only_disk logs.Memory is = absurd (true≢false (sym (ap is_disk is)))

no_scratch : (failed : LogError) → is_scratch (start_error failed) ≡ false
no_scratch logs.NotALog = refl
no_scratch (logs.Damaged at) = refl
no_scratch logs.DiskFault = refl
no_scratch logs.Memory = refl

-- an error of a log blames the disk as the error of starting does
pub disk_failed : {T U : Type 0} (failed : LogError) (error : StartError) (before mid now : ℕ)
    → error ≡ start_error failed → mid ≡ before
    → HasCause mid now (IsErrOf {T = T} (Err failed) logs.DiskFault)
    → HasCause before now (IsErrOf {T = U} (Err error) starts.DiskFault)
disk_failed {T} {U} failed error before mid now is same cause =
    last_blamed before mid now (IsErrOf {T = T} (Err failed) logs.DiskFault)
    (IsErrOf {T = U} (Err error) starts.DiskFault) same cause
    (λ both. ap Err (is ∙ ap start_error (same_error {T = T} failed logs.DiskFault both)))
    (λ both. ap Err (only_disk failed
    (sym is ∙ same_error {T = U} error starts.DiskFault both)))

-- and it doesn't blame the scratch device
pub log_spares : {T : Type 0} (failed : LogError) (error : StartError)
    → error ≡ start_error failed → IsErrOf {T = T} (Err error) starts.ScratchFault → ⊥
log_spares {T} failed error is =
    scratch_spared {T = T} error (ap is_scratch is ∙ no_scratch failed)

-- ---- calls

module _ {D T : Type 0} (now : D → ℕ) (disk : D → ℕ → Option DiskState) (disk_faults : D → ℕ)
    (told : D → T) (wire_faults : D → ℕ) where
  -- calls that cannot blame the disk, and leave all as it was
  pub reads_unblamed : (old new : D) (B : Type 0) → Stays now disk old new → told new ≡ told old
      → wire_faults new ≡ wire_faults old → disk_faults new ≡ disk_faults old → (B → ⊥)
      → ReadsLog now disk disk_faults told wire_faults old new B
  reads_unblamed old new B stays told_is wire_is same never = record {
    stays = stays;
    wire = record { told = told_is; faults = wire_is };
    cause = none_blamed (disk_faults old) (disk_faults new) B same never;
  }

  -- a log is read after calls that leave all as it was
  pub reads_then : (old mid new : D) (B : Type 0) → Stays now disk old mid → told mid ≡ told old
      → wire_faults mid ≡ wire_faults old → disk_faults mid ≡ disk_faults old
      → ReadsLog now disk disk_faults told wire_faults mid new B
      → ReadsLog now disk disk_faults told wire_faults old new B
  reads_then old mid new B stays told_is wire_is same reads = record {
    stays = stays_on now disk old mid new stays reads.stays;
    wire = record { told = reads.wire.told ∙ told_is; faults = reads.wire.faults ∙ wire_is };
    cause = last_blamed (disk_faults old) (disk_faults mid) (disk_faults new) B B same reads.cause
        (λ b. b) (λ b. b);
  }

module _ {S : Type 0} (calls : Bool) (state : S → ScratchState) (faults : S → ℕ) where
  -- calls that cannot blame the device
  pub runs_unblamed : (old new : S) (B : Type 0) → Retains (state old) (state new)
      → faults new ≡ faults old → (calls ≡ false → new ≡ old) → (B → ⊥)
      → RunsOn calls state faults old new B
  runs_unblamed old new B retains same unused never = record {
    serves = record {
      retains = retains;
      cause = none_blamed (faults old) (faults new) B same never;
    };
    unused = λ is. (unused is, never);
  }

  -- a block runs after others
  pub runs_then : (old mid new : S) (B C : Type 0) → Retains (state old) (state mid)
      → faults mid ≡ faults old → (calls ≡ false → mid ≡ old) → RunsOn calls state faults mid new B
      → (B → C) → (C → B) → RunsOn calls state faults old new C
  runs_then old mid new B C retains same unused runs there back = record {
    serves = record {
      retains = retains_trans (state old) (state mid) (state new) retains runs.serves.retains;
      cause = last_blamed (faults old) (faults mid) (faults new) B C same runs.serves.cause there
          back;
    };
    unused = λ is. ((runs.unused is).0 ∙ unused is, λ blames. (runs.unused is).1 (back blames));
  }
