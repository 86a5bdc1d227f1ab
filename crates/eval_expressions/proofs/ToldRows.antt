-- Facts that hold only if a host's rows are known, and if no host failed.
use Rattle.std.proofs.Common.{◌≡◌, ℕ, eqb, inl, inr, Option, Some, None, refl, sym, ◌∙◌, subst, true≢false}
use Rattle.std.specs.Prelude.{IfSome}
use Rattle.std.proofs.lemmas.Bool.{cases_Bool, eqb-true, eq-eqb}

pub told_at : {T : Type 0} (P : T → Type 0) (o : Option T) (x : T) → o ≡ Some x → IfSome o P → P x
told_at P o x e h = subst (λ o. IfSome o P) e h

pub told_all : {T : Type 0} (P : T → Type 0) (o : Option T) → ((x : T) → o ≡ Some x → P x) → IfSome o P
told_all P None h = tt
told_all P (Some x) h = h x refl

-- A call that doesn't report a fault leaves the host's count of faults as it was.
pub unblamed : (before now : ℕ) → ((now ≡ before → ⊥) → ⊥) → now ≡ before
unblamed before now told =
    elim (cases_Bool (eqb now before)) [
      | inl same ↦ eqb-true now before same
      | inr differ ↦ absurd (told (λ e. true≢false (sym (eq-eqb now before e) ∙ differ)))
    ]
