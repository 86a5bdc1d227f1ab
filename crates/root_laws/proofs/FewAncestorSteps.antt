-- Each lookup looks at few versions, so tracing does.
use Rattle.std.proofs.Common.{ℕ, zero, suc, ◌+◌, ◌*◌, ◌^◌, ◌<◌, ◌≤◌, List, [], ◌∷◌, length, ap}
use Rattle.std.proofs.Common.{arith, inl, inr}
use Rattle.std.specs.List.{All}
use Rattle.std.proofs.lemmas.Bool.{cases_lt, lt-ltb, le-ltb}
use Rattle.std.proofs.Math.Nat.{suc-mul, add-mul}
use Rattle.std.proofs.lemmas.List.Elements.{recursion_from_All}
use Rattle.lc_base.specs.declared.row.Row.{Row}
use Rattle.lc_base.specs.declared.row.Dep.{Dep}
use Rattle.lc_base.specs.History.{IsLawful, newest, latest}
use Rattle.skip_links.specs.Paths.{path, digits_up_to, binary_digits}
use Rattle.skip_links.proofs.OverRows.{path_short, path_none}
use Rattle.root_laws.proofs.Lists.{option_cases}
use Rattle.root_laws.proofs.Headers.{newest_has}
use Rattle.root_laws.specs.AncestorSteps.{steps_of, ancestors_if_any, trace_steps, TraceStepsAreFew}

digits_low : (d n : ℕ) → digits_up_to d n ≤ suc d
unfolding digits_up_to
digits_low zero n = omega arith
digits_low (suc d) n = let deep = digits_low d n in elim (cases_lt n (2 ^ suc d)) [
  | inl less ↦ rw (lt-ltb n (2 ^ suc d) less) (omega (arith, deep))
  | inr more ↦ rw (le-ltb n (2 ^ suc d) more) (omega arith)
]

-- A later block has at least as many digits.
digits_rise : (d m n : ℕ) → m ≤ n → digits_up_to d m ≤ digits_up_to d n
unfolding digits_up_to
digits_rise zero m n le = omega arith
digits_rise (suc d) m n le = let deep = digits_rise d m n le in elim (cases_lt n (2 ^ suc d)) [
  | inl less ↦ rw (lt-ltb n (2 ^ suc d) less, lt-ltb m (2 ^ suc d) (lower m n (2 ^ suc d) le less))
      deep
  | inr more ↦ elim (cases_lt m (2 ^ suc d)) [
    | inl less ↦ let low = digits_low d m in
        rw (le-ltb n (2 ^ suc d) more, lt-ltb m (2 ^ suc d) less) (omega (arith, low))
    | inr high ↦ rw (le-ltb n (2 ^ suc d) more, le-ltb m (2 ^ suc d) high) (omega arith)
  ]
]
  where
    lower : (a b c : ℕ) → a ≤ b → b < c → a < c
    lower a b c x y = omega (arith, x, y)

module _ (rows : List Row) (head : ℕ) (lawful : IsLawful rows)
    (early : All (λ (row : Row). row.block ≤ head) rows) (fits : head < 2 ^ 32) where
  abbrev most : ℕ
  most = 2 * binary_digits head + 2

  one_path : (key : List ℕ) (at : ℕ) → length (path rows key at) ≤ most
  one_path key at = elim (option_cases (newest rows key)) [
    | inl none ↦ omega (arith, ap length (path_none rows key at none))
    | inr s ↦
        let low : s.0.block ≤ head =
        newest_has (λ (row : Row). row.block ≤ head) rows key s.0
        (recursion_from_All (λ (row : Row). row.block ≤ head) rows early) s.1 in
        let short = path_short rows key at s.0 lawful s.1 (omega (arith, low, fits)) in
        let digits = digits_rise 31 s.0.block head low in
        omega (arith, short, digits)
  ]

  all_paths : (versions : List Dep) → steps_of rows versions ≤ length versions * most
  all_paths [] = omega arith
  all_paths (version ∷ versions) =
      let first = one_path version.key version.block in
      let rest = all_paths versions in
      sum_low (length (path rows version.key version.block)) (steps_of rows versions) most
      (length versions) first rest
    where
      sum_low : (a b m n : ℕ) → a ≤ m → b ≤ n * m → a + b ≤ suc n * m
      sum_low a b m n x y = omega (arith, x, y, suc-mul n m)

  pub steps_few : (key : List ℕ) (at : ℕ)
      → trace_steps rows key at ≤ (length (ancestors_if_any rows (latest rows key at)) + 1) * most
  steps_few key at =
      let first = one_path key at in
      let rest = all_paths (ancestors_if_any rows (latest rows key at)) in
      sum_low (length (path rows key at))
      (steps_of rows (ancestors_if_any rows (latest rows key at))) most
      (length (ancestors_if_any rows (latest rows key at))) first rest
    where
      sum_low : (a b m n : ℕ) → a ≤ m → b ≤ n * m → a + b ≤ (n + 1) * m
      sum_low a b m n x y = omega (arith, x, y, add-mul n 1 m)

pub few_steps : TraceStepsAreFew
few_steps rows key at head lawful early fits = steps_few rows head lawful early fits key at
