-- Whom a command over the log blames: whom the call blames that makes its answer.
use Rattle.std.proofs.Common.{◌≡◌, ℕ, Result, Ok, Err, inl, inr, eqb, sym, ap, ◌∙◌, arith}
use Rattle.std.proofs.Common.{true≢false}
use Rattle.std.specs.Prelude.{IsErrOf}
use Rattle.std.proofs.lemmas.Bool.{cases_Bool, eqb-true, eq-eqb}
use Rattle.lc_base.specs.Faults.{HasCause}
use Rattle.cli_append.specs.cli_promises.declared.ending.RunEnd.{RunEnd}
use Rattle.cli_append.specs.cli_promises.declared.ending.RunStop.{RunStop}
use Rattle.cli_lines.specs.declared.outcome.Ending.{Ending}
use Rattle.cli_append.proofs.Causes.{carried}
use Rattle.cli_output.specs.Telling.{run_answer, upgrade_answer}

-- a call that cannot blame leaves the count as it was
pub none_blamed : (before now : ℕ) (B : Type 0) → now ≡ before → (B → ⊥) → HasCause before now B
none_blamed before now B same never = record {
  later = omega (arith, same);
  failed = λ blames. absurd (never blames);
  told = λ differ. absurd (differ same);
}

-- a call that ends well leaves a count as it was
pub unblamed : {T E : Type 0} {x : T} {e : E} (before now : ℕ)
    → HasCause before now (IsErrOf (Ok x) e) → now ≡ before
unblamed {T} {E} {x} {e} before now cause =
    elim (cases_Bool (eqb now before)) [
      | inl same ↦ eqb-true now before same
      | inr differ ↦
          let both : Ok x ≡ Err e = cause.told
          (λ is. true≢false (sym (eq-eqb now before is) ∙ differ)) in
          absurd cc
    ]

taken_stops : (answer : Result RunEnd RunStop) (stop : RunStop) → run_answer answer ≡ Err stop
    → answer ≡ Err stop
taken_stops (Ok end) stop is = absurd cc
taken_stops (Err other) stop is = cc

pub marked_stops : {T : Type 0} (answer : Result T RunStop) (stop : RunStop)
    → upgrade_answer answer ≡ Err stop → answer ≡ Err stop
marked_stops (Ok done) stop is = absurd cc
marked_stops (Err other) stop is = cc

-- a command that takes frames blames whom the taking of them blames
pub taken_blames : (answer : Result RunEnd RunStop) (result : Result Ending RunStop)
    (stop : RunStop) (before mid now : ℕ) → result ≡ run_answer answer → mid ≡ before
    → HasCause mid now (IsErrOf answer stop) → HasCause before now (IsErrOf result stop)
taken_blames answer result stop before mid now is same cause =
    carried before mid now (IsErrOf answer stop) (IsErrOf result stop) same cause
    (λ blames. is ∙ ap run_answer blames)
    (λ blames. taken_stops answer stop (sym is ∙ blames))

-- `upgrade` blames whom the marking of the log blames
pub marked_blames : {T : Type 0} (answer : Result T RunStop) (result : Result Ending RunStop)
    (stop : RunStop) (before mid now : ℕ) → result ≡ upgrade_answer answer → mid ≡ before
    → HasCause mid now (IsErrOf answer stop) → HasCause before now (IsErrOf result stop)
marked_blames answer result stop before mid now is same cause =
    carried before mid now (IsErrOf answer stop) (IsErrOf result stop) same cause
    (λ blames. is ∙ ap upgrade_answer blames)
    (λ blames. marked_stops answer stop (sym is ∙ blames))
