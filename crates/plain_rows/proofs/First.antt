-- What is kept of the first items that pass a test is what is kept of all, below an index.
use Rattle.std.proofs.Common.{◌≡◌, ℕ, zero, suc, ◌+◌, ◌≤◌, nat_lt, List, [], ◌∷◌, filter, take}
use Rattle.std.proofs.Common.{Bool, true, false, refl, ap, ◌∙◌, inl, inr, arith}
use Rattle.std.proofs.lemmas.Bool.{cases_Bool, lt-ltb, le-ltb}
use Rattle.plain_rows.specs.Places.{marks_of}

module _ {X A : Type 0} (keep : ℕ → X → A) (passes : X → Bool) (test : A → Bool) (end : ℕ)
    (tests : (m : ℕ) (x : X) → test (keep m x) ≡ nat_lt m end) where
  none_low : (m : ℕ) (xs : List X) → end ≤ m → filter test (marks_of keep passes m xs) ≡ []
  none_low m [] high = refl
  none_low m (x ∷ xs) high =
      let rest = none_low (suc m) xs (omega (arith, high)) in
      let off : test (keep m x) ≡ false = tests m x ∙ le-ltb m end high in
      elim (cases_Bool (passes x)) [
        | inl t ↦ rw (t, off) rest
        | inr f ↦ rw f rest
      ]

  pub marked_first : (n k : ℕ) (xs : List X) → n + k ≡ end
      → filter test (marks_of keep passes n xs) ≡ marks_of keep passes n (take k xs)
  marked_first n zero xs at = none_low n xs (omega (arith, at))
  marked_first n (suc k) [] at = refl
  marked_first n (suc k) (x ∷ xs) at =
      let rest = marked_first (suc n) k xs (omega (arith, at)) in
      let on : test (keep n x) ≡ true = tests n x ∙ lt-ltb n end (omega (arith, at)) in
      elim (cases_Bool (passes x)) [
        | inl t ↦ rw (t, on) (ap (λ l. keep n x ∷ l) rest)
        | inr f ↦ rw f rest
      ]
