-- A call that ends well blames nobody, and leaves the count of faults as it was.
use Rattle.std.proofs.Common.{◌≡◌, inl, inr, ℕ, eqb, Ok, Err, sym, ◌∙◌, true≢false, arith}
use Rattle.std.specs.Prelude.{IsErrOf}
use Rattle.std.proofs.lemmas.Bool.{cases_Bool, eqb-true, eq-eqb}
use Rattle.lc_base.specs.Faults.{HasCause}

-- a call that ends well leaves a count of faults as it was
pub unblamed : {T E : Type 0} {x : T} {e : E} (before now : ℕ)
    → HasCause before now (IsErrOf (Ok x) e) → now ≡ before
unblamed {T} {E} {x} {e} before now cause =
    elim (cases_Bool (eqb now before)) [
      | inl same ↦ eqb-true now before same
      | inr differ ↦
          let both : Ok x ≡ Err e = cause.told
          (λ is. true≢false (sym (eq-eqb now before is) ∙ differ)) in
          absurd cc
    ]

-- a call that ends well and leaves the count as it was blames nobody
pub blameless : {T E : Type 0} {x : T} {e : E} (before now : ℕ) → now ≡ before
    → HasCause before now (IsErrOf (Ok x) e)
blameless {T} {E} {x} {e} before now is = record {
  later = omega (arith, is);
  failed = λ both. absurd (no_error both);
  told = λ differ. absurd (differ is);
}
  where
    no_error : Ok x ≡ Err e → ⊥
    no_error both = cc
