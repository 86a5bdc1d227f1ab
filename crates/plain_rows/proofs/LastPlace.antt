-- If an item passes a test and all after it fail, it is the last that passes: so bisection finds
-- it.
use Rattle.std.proofs.Common.{◌≡◌, ℕ, zero, suc, ◌<◌, ◌≤◌, List, [], ◌∷◌, length, get_or, reverse}
use Rattle.std.proofs.Common.{Bool, true, false, cond, None, Some, refl, ap, ◌∙◌, inl, inr, arith}
use Rattle.std.specs.List.{find, AllPairs}
use Rattle.std.specs.List.Sorted.{IsNonDecreasingBy}
use Rattle.std.specs.Option.{option_or}
use Rattle.std.proofs.lemmas.Bool.{cases_lt}
use Rattle.lc_base.specs.declared.row.Row.{Row}
use Rattle.lc_base.specs.History.{StandsBefore}
use Rattle.plain_rows.proofs.Marked.{find_first}

abbrev pub FailsFrom : {X : Type 0} → (X → Bool) → List X → ℕ → Type 0
FailsFrom {X} test xs k = (j : ℕ) (d : X) → k ≤ j → j < length xs → test (get_or xs j d) ≡ false

pub none_passes : {X : Type 0} (test : X → Bool) (xs : List X) → FailsFrom test xs 0
    → find test (reverse xs) ≡ None
none_passes test [] fails = refl
none_passes test (x ∷ xs) fails =
    find_first test x xs
    ∙ (λ i. option_or (none_passes test xs
    (λ j d l m. fails (suc j) d (omega arith) (omega (arith, m))) i)
    (cond (fails 0 x (omega arith) (omega arith) i) (Some x) None))

pub last_passes : {X : Type 0} (test : X → Bool) (xs : List X) (k : ℕ) (d : X) → k < length xs
    → test (get_or xs k d) ≡ true → FailsFrom test xs (suc k)
    → find test (reverse xs) ≡ Some (get_or xs k d)
last_passes test [] k d m passes fails = absurd (omega (arith, m))
last_passes test (x ∷ xs) zero d m passes fails =
    find_first test x xs
    ∙ (λ i. option_or (none_passes test xs
    (λ j e l n. fails (suc j) e (omega arith) (omega (arith, n))) i)
    (cond (passes i) (Some x) None))
last_passes test (x ∷ xs) (suc k) d m passes fails =
    find_first test x xs
    ∙ ap (λ o. option_or o (cond (test x) (Some x) None))
    (last_passes test xs k d (omega (arith, m)) passes
    (λ j e l n. fails (suc j) e (omega (arith, l)) (omega (arith, n))))

pub blocks_rise : (rows : List Row) → AllPairs StandsBefore rows
    → IsNonDecreasingBy (λ (row : Row). row.block) rows
blocks_rise rows lawful i j d l k = elim (cases_lt i j) [
  | inl less ↦ in_order (get_or rows i d) (get_or rows j d) (lawful i j d less k)
  | inr more ↦ let same : i ≡ j = omega (arith, l, more) in rw same (omega arith)
]
  where
    in_order : (a b : Row) → StandsBefore a b → a.block ≤ b.block
    in_order a b (inl less) = omega (arith, less)
    in_order a b (inr same) = omega (arith, same.0)
