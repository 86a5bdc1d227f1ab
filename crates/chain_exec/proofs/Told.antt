-- Properties of a result, whether or not the host's rows are known, and of a host that didn't fail.
use Rattle.std.proofs.Common.{◌≡◌, ℕ, eqb, inl, inr, Option, None, Some, Result, Ok, Err, sym, ◌∙◌, subst, true≢false}
use Rattle.std.specs.Prelude.{IfSome, IfOk}
use Rattle.std.proofs.lemmas.Bool.{cases_Bool, eqb-true, eq-eqb}
use Rattle.lc_base.specs.declared.memory.Memory.{Memory}
use Rattle.lc_base.specs.declared.host_error.HostError.{HostError}
use Rattle.chain_exec.specs.declared.staging.TxRun.{TxRun}

pub if_told : {X : Type 0} (P : X → Type 0) (told : Option X) → ((x : X) → P x) → IfSome told P
if_told P None all = tt
if_told P (Some x) all = all x

pub unless_memory : (P : TxRun → Type 0) (result : Result TxRun HostError) (given : Result TxRun Memory) → IfOk result (λ run. given ≡ Ok run) → IfOk given P → IfOk result P
unless_memory P (Ok run) given is all = subst (λ r. IfOk r P) is all
unless_memory P (Err error) given is all = tt

-- what is returned unchanged keeps its properties
pub handed_on : (P : TxRun → Type 0) (result : Result TxRun Memory) (run : TxRun) → IfOk result (λ staged. staged ≡ run) → P run → IfOk result P
handed_on P (Ok staged) run is holds = subst P (sym is) holds
handed_on P (Err memory) run is holds = tt

-- a call that ends well leaves the host's count of faults as it was
pub unblamed_at_ok : {T E : Type 0} {x : T} {e : E} (before now : ℕ) → ((now ≡ before → ⊥) → Ok x ≡ Err e) → now ≡ before
unblamed_at_ok {T} {E} {x} {e} before now told =
    elim (cases_Bool (eqb now before)) [
      | inl same ↦ eqb-true now before same
      | inr differ ↦
          let both : Ok x ≡ Err e = told (λ is. true≢false (sym (eq-eqb now before is) ∙ differ)) in
          absurd cc
    ]
