-- Counts of faults over two calls, one of which leaves a count as it was.
use Rattle.std.proofs.Common.{◌≡◌, inl, inr, ℕ, eqb, sym, ◌∙◌, subst, arith, true≢false}
use Rattle.std.proofs.lemmas.Bool.{cases_Bool, eqb-true, eq-eqb}
use Rattle.lc_base.specs.Faults.{HasCause}

-- What the second call blames, both blame, if they blame for the same.
pub carried : (before mid now : ℕ) (B C : Type 0) → mid ≡ before → HasCause mid now B → (B → C)
    → (C → B) → HasCause before now C
carried before mid now B C same cause there back =
    subst (λ (n : ℕ). HasCause n now C) same
    (record {
      later = cause.later;
      failed = λ blames. cause.failed (back blames);
      told =
          λ differ. there (cause.told differ);
    })

-- What the first call blames, both blame, if the second leaves the count as it was and they blame
-- for the same.
pub kept : (before mid now : ℕ) (B C : Type 0) → now ≡ mid → HasCause before mid B → (B → C)
    → (C → B) → HasCause before now C
kept before mid now B C same cause there back =
    subst (λ (n : ℕ). HasCause before n C) (sym same)
    (record {
      later = cause.later;
      failed = λ blames. cause.failed (back blames);
      told =
          λ differ. there (cause.told differ);
    })

-- Calls that cannot blame leave the count as it was.
pub none_blamed : (before now : ℕ) (B : Type 0) → now ≡ before → (B → ⊥) → HasCause before now B
none_blamed before now B same never = record {
  later = omega (arith, same);
  failed = λ blames. absurd (never blames);
  told = λ differ. absurd (differ same);
}

-- A count that nobody is blamed for stays.
pub unblamed : (before now : ℕ) (B : Type 0) → HasCause before now B → (B → ⊥) → now ≡ before
unblamed before now B cause none = elim (cases_Bool (eqb now before)) [
  | inl same ↦ eqb-true now before same
  | inr differ ↦ absurd (none (cause.told (λ is. true≢false (sym (eq-eqb now before is) ∙ differ))))
]
