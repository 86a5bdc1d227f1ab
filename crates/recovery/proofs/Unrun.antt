-- A block that did not run: what is returned for it, and whom that blames.
use Rattle.std.proofs.Common.{◌≡◌, ℕ, true, false, List, Option, None, Result, Err, refl}
use Rattle.std.proofs.Common.{sym, ap, subst, ◌∙◌, true≢false}
use Rattle.std.specs.Prelude.{IsErrOf}
use Rattle.lc_base.specs.Faults.{HasCause}
use Rattle.lc_base.specs.declared.host_error.HostError.{HostError}
use Rattle.lc_base.specs.declared.host_error.HostError.TheVariants as hosts
use Rattle.lc_io.specs.Disk.{DiskState}
use Rattle.block_codec.specs.declared.block.Block.{Block}
use Rattle.rooted_chain.specs.chain_replay.Judging.{Taken}
use Rattle.rooted_chain.specs.chain_replay.declared.refusal.Refusal.{Refusal}
use Rattle.recovery.specs.Node.{NodeState, IsHandedBack, append_error, is_disk_fault, is_refusal}
use Rattle.recovery.specs.Node.{is_scratch_fault}
use Rattle.recovery.specs.declared.errors.AppendError.{AppendError}
use Rattle.recovery.proofs.Leaving.{host_spares, last_blamed}

no_disk : (error : HostError) → is_disk_fault (append_error error) ≡ false
no_disk hosts.Fault = refl
no_disk hosts.Memory = refl

no_refusal : (error : HostError) → is_refusal (append_error error) ≡ false
no_refusal hosts.Fault = refl
no_refusal hosts.Memory = refl

scratch_there : {T : Type 0} (error : HostError) → IsErrOf {T = T} (Err error) hosts.Fault
    → is_scratch_fault (append_error error) ≡ true
scratch_there hosts.Fault both = refl
scratch_there {T} hosts.Memory both = absurd (host_spares {T = T} both)

scratch_back : {T : Type 0} (error : HostError) → is_scratch_fault (append_error error) ≡ true
    → IsErrOf {T = T} (Err error) hosts.Fault
scratch_back hosts.Fault both = refl
scratch_back hosts.Memory both = absurd (true≢false (sym both))

handed : (old : NodeState) (state : Option DiskState) (blocks : List Block)
    (judgement : Result Taken Refusal) (error : HostError)
    → IsHandedBack old state blocks judgement None (append_error error)
handed old state blocks judgement hosts.Fault = refl
handed old state blocks judgement hosts.Memory = refl

module _ (error : HostError) (failed : AppendError) (is : failed ≡ append_error error) where
  pub disk_spared : is_disk_fault failed ≡ true → ⊥
  disk_spared both = true≢false (sym both ∙ ap is_disk_fault is ∙ no_disk error)

  pub none_back : false ≡ is_refusal failed
  none_back = sym (ap is_refusal is ∙ no_refusal error)

  pub scratch_blamed : {T : Type 0} (before now : ℕ)
      → HasCause before now (IsErrOf {T = T} (Err error) hosts.Fault)
      → HasCause before now (is_scratch_fault failed ≡ true)
  scratch_blamed {T} before now cause =
      last_blamed before before now (IsErrOf {T = T} (Err error) hosts.Fault)
      (is_scratch_fault failed ≡ true) refl cause
      (λ both. ap is_scratch_fault is ∙ scratch_there {T = T} error both)
      (λ both. scratch_back {T = T} error (sym (ap is_scratch_fault is) ∙ both))

  pub none_handed : (old : NodeState) (state : Option DiskState) (blocks : List Block)
      (judgement : Result Taken Refusal) → IsHandedBack old state blocks judgement None failed
  none_handed old state blocks judgement =
      subst (λ (e : AppendError). IsHandedBack old state blocks judgement None e) (sym is)
      (handed old state blocks judgement error)
