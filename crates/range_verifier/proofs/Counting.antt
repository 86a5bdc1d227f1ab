-- Of the number of all headers, those that aren't between the blocks are taken away one by one.
use Rattle.std.proofs.Common.{◌≡◌, ℕ, suc, ◌+◌, ◌-◌, ◌≤◌, Bool, true, false, cond, List, [], ◌∷◌}
use Rattle.std.proofs.Common.{length, refl, ap, arith}
use Rattle.prov_entry.specs.declared.entry.Header.{Header}
use Rattle.proof_verifier.specs.proof_checks.RangeChecks.{is_within}
use Rattle.range_verifier.specs.Reading.{count_within}

module _ (from to : ℕ) where
  with_first : (header : Header) (headers : List Header) (b : Bool)
      → is_within from to header ≡ b
      → count_within from to (header ∷ headers)
      ≡ cond b (suc (count_within from to headers)) (count_within from to headers)
  with_first header headers true is = rw is refl
  with_first header headers false is = rw is refl

  one_more : (header : Header) (headers : List Header) (b : Bool) → is_within from to header ≡ b
      → count_within from to (header ∷ headers) ≤ suc (count_within from to headers)
  one_more header headers true is = omega (arith, with_first header headers true is)
  one_more header headers false is = omega (arith, with_first header headers false is)

  at_most_all : (headers : List Header) → count_within from to headers ≤ length headers
  at_most_all [] = omega arith
  at_most_all (header ∷ headers) =
      let more = one_more header headers (is_within from to header) refl in
      omega (arith, at_most_all headers, more)

  -- `count` counts the rest, and those before it that are between the blocks.
  abbrev pub IsCounted : List Header → ℕ → List Header → Type 0
  IsCounted headers count rest =
      count + count_within from to rest ≡ count_within from to headers + length rest

  -- The first header of `rest` isn't between the blocks, and is taken away.
  pub one_less : (headers : List Header) (count : ℕ) (rest : List Header) (header : Header)
      (others : List Header) → rest ≡ header ∷ others → is_within from to header ≡ false
      → IsCounted headers count rest → (1 ≤ count) × IsCounted headers (count - 1) others
  one_less headers count rest header others parts outside counted =
      let long : length rest ≡ suc (length others) = ap (λ (t : List Header). length t) parts in
      let same = ap (λ (t : List Header). count_within from to t) parts in
      let first = with_first header others false outside in
      let few = at_most_all others in
      (omega (arith, counted, long, same, first, few), omega (arith, counted, long, same, first, few))
