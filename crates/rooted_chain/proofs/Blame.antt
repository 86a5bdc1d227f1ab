-- A call that returns the error of its last call blames whom that call blamed.
use Rattle.std.proofs.Common.{◌≡◌, ◌∙◌, ℕ, Err, ap, subst, arith}
use Rattle.std.specs.Prelude.{IsErrOf}
use Rattle.lc_base.specs.Faults.{HasCause, Rose}

-- the same error, of another result
err_again : {T U E : Type 0} {error e : E} → IsErrOf {T = T} {E = E} (Err error) e
    → IsErrOf {T = U} {E = E} (Err error) e
err_again {T} {U} {E} {error} {e} both =
    let same : error ≡ e = cc in
    ap (λ (x : E). Err x) same

-- where the calls before left the count of faults as it was
pub passed_on : {T U E : Type 0} {error e : E} (before middle now : ℕ) → middle ≡ before
    → HasCause middle now (IsErrOf {T = T} {E = E} (Err error) e)
    → HasCause before now (IsErrOf {T = U} {E = E} (Err error) e)
passed_on {T} {U} {E} {error} {e} before middle now same cause = record {
  later = omega (arith, same, cause.later);
  failed = λ both. subst (λ (n : ℕ). Rose n now) same (cause.failed (err_again {T = U} {U = T} both));
  told = λ differ. err_again {T = T} {U = U} (cause.told (λ is. differ (is ∙ same)));
}
