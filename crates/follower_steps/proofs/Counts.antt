-- How many blocks can wait, and what it says that none waits with some number.
use Rattle.std.proofs.Common.{◌≡◌, ◌≢◌, ◌⊎◌, inl, inr, ℕ, suc, ◌+◌, ◌-◌, ◌<◌, ◌≤◌, Bool, true}
use Rattle.std.proofs.Common.{false, cond, eqb}
use Rattle.std.proofs.Common.{List, [], ◌∷◌, map, length, get_or, refl, sym, ◌∙◌, ap, arith}
use Rattle.std.specs.Prelude.{Option, Some, None, is_some, ◌==◌, nat_lt, slice_get}
use Rattle.std.specs.List.{All, AllPairs, list_any, position_or_len, remove, IsDistinct}
use Rattle.std.proofs.lemmas.Bool.{eqb-true, eqb-false, ne_eqb, ltb-false, cases_lt}
use Rattle.std.proofs.lemmas.List.{length-map}
use Rattle.std.proofs.lemmas.List.Edits.{get_or-remove_below, get_or-remove_above, length-remove}
use Rattle.std.proofs.lemmas.List.Elements.{All-head, All-tail, All-map, recursion_from_All}
use Rattle.std.proofs.lemmas.List.Quantifiers.{position-Some}
use Rattle.std.proofs.lemmas.List.Sums.{fails_before_first}
use Rattle.std.proofs.lemmas.Map.Keys.{IsDistinct-cons}
use Rattle.std.proofs.lemmas.Option.{get_or_from_slice_get}
use Rattle.std.proofs.lemmas.Map.Steps.{length-le_from_distinct_below}
use Rattle.follower_steps.specs.declared.waiting.Waiting.{Waiting}
use Rattle.follower_steps.specs.Steps.{position_of}

-- two blocks have different numbers
abbrev pub Differ : Waiting → Waiting → Type 0
Differ one other = one.number ≢ other.number

-- ---- how many there are

module _ (low n : ℕ) where
  -- how far the number is above the lowest
  abbrev above : Waiting → ℕ
  above block = block.number - low

  apart_above : (block : Waiting) (waiting : List Waiting) → low ≤ block.number
      → AllPairs Differ (block ∷ waiting) → All (λ (w : Waiting). low ≤ w.number) waiting
      → All (λ (w : Waiting). eqb (above block) (above w) ≡ false) waiting
  apart_above block waiting least apart all at d within =
      let here = all at d within in
      let differ : block.number ≢ (get_or waiting at d).number =
      apart 0 (suc at) d (omega arith) (omega (arith, within)) in
      ne_eqb (above block) (above (get_or waiting at d))
      (λ same. differ (omega (arith, same, here, least)))

  distinct : (waiting : List Waiting) → AllPairs Differ waiting
      → All (λ (w : Waiting). low ≤ w.number) waiting → IsDistinct eqb (map above waiting)
  unfolding IsDistinct
  distinct [] apart all = tt
  distinct (block ∷ waiting) apart all =
      let rest = All-tail (λ (w : Waiting). low ≤ w.number) block waiting all in
      IsDistinct-cons eqb (above block) (map above waiting)
      (recursion_from_All (λ (q : ℕ). eqb (above block) q ≡ false) (map above waiting)
      (All-map (λ (q : ℕ). eqb (above block) q ≡ false) above waiting
      (apart_above block waiting
      (All-head (λ (w : Waiting). low ≤ w.number) block waiting all) apart rest)))
      (distinct waiting (λ i j d lt within. apart (suc i) (suc j) d (omega (arith, lt))
      (omega (arith, within))) rest)

  below_first : (block : Waiting) (waiting : List Waiting) (q : ℕ) → low ≤ block.number
      → block.number < low + n → (list_any (eqb q) (map above waiting) ≡ true → q < n)
      → (test : Bool) → eqb q (above block) ≡ test
      → list_any (eqb q) (map above (block ∷ waiting)) ≡ true → q < n
  below_first block waiting q least most others true is has =
      omega (arith, eqb-true q (above block) is, least, most)
  below_first block waiting q least most others false is has = others (rw is at has)

  below : (waiting : List Waiting) → All (λ (w : Waiting). low ≤ w.number) waiting
      → All (λ (w : Waiting). w.number < low + n) waiting
      → (q : ℕ) → list_any (eqb q) (map above waiting) ≡ true → q < n
  below [] all all_below q has = absurd (cc has)
  below (block ∷ waiting) all all_below q has = below_first block waiting q
      (All-head (λ (w : Waiting). low ≤ w.number) block waiting all)
      (All-head (λ (w : Waiting). w.number < low + n) block waiting all_below)
      (below waiting (All-tail (λ (w : Waiting). low ≤ w.number) block waiting all)
      (All-tail (λ (w : Waiting). w.number < low + n) block waiting all_below) q)
      (eqb q (above block)) refl has

  -- different numbers from the lowest on, below this much above it, are at most so many
  pub few : (waiting : List Waiting) → AllPairs Differ waiting
      → All (λ (w : Waiting). low ≤ w.number) waiting
      → All (λ (w : Waiting). w.number < low + n) waiting → length waiting ≤ n
  few waiting apart all all_below = omega (
    arith,
    length-map waiting above,
    length-le_from_distinct_below (map above waiting) n (distinct waiting apart all)
        (below waiting all all_below),
  )

-- ---- none with some number

none_past : (test : Bool) (at : ℕ) → is_some (cond test (Some at) None) ≡ false → test ≡ false
none_past true at is = absurd (cc is)
none_past false at is = refl

-- if no position is found, no block has the number
pub all_others : (number : ℕ) (waiting : List Waiting)
    → is_some (position_of number waiting) ≡ false
    → All (λ (w : Waiting). w.number ≢ number) waiting
all_others number waiting none at d within =
    let test = λ (w : Waiting). w.number == number in
    let past = ltb-false (position_or_len test waiting) (length waiting)
    (none_past (nat_lt (position_or_len test waiting) (length waiting))
    (position_or_len test waiting) none) in
    eqb-false (get_or waiting at d).number number
    (fails_before_first test waiting at d (omega (arith, within, past)))

-- and the other way round
no_such : (number : ℕ) (waiting : List Waiting) (found : Option ℕ)
    → position_of number waiting ≡ found → All (λ (w : Waiting). w.number ≢ number) waiting
    → is_some found ≡ false
no_such number waiting None found others = refl
no_such number waiting (Some at) found others =
    let nothing : Waiting = record { index = 0; number = 0; bytes = [] } in
    let here = position-Some (λ (w : Waiting). w.number == number) waiting at nothing found in
    absurd (others at nothing here.0 (eqb-true _ _ here.1))

pub no_position : (number : ℕ) (waiting : List Waiting)
    → All (λ (w : Waiting). w.number ≢ number) waiting
    → is_some (position_of number waiting) ≡ false
no_position number waiting others =
    no_such number waiting (position_of number waiting) refl others

-- the block at the position that was found has the number
pub at_number : (number : ℕ) (waiting : List Waiting) (at : ℕ) (block : Waiting)
    → position_of number waiting ≡ Some at → slice_get waiting at ≡ Some block
    → block.number ≡ number
at_number number waiting at block found here =
    let test = λ (w : Waiting). w.number == number in
    ap (λ (w : Waiting). w.number) (sym (get_or_from_slice_get waiting at block block here))
    ∙ eqb-true _ _ (position-Some test waiting at block found).1

-- if one with the number is taken out, none is left with it
pub rest_others : (number : ℕ) (waiting : List Waiting) (at : ℕ) → AllPairs Differ waiting
    → position_of number waiting ≡ Some at
    → All (λ (w : Waiting). w.number ≢ number) (remove waiting at)
rest_others number waiting at apart found k d within =
    by (cases_lt k at)
  where
    test : Waiting → Bool
    test w = w.number == number

    here : at < length waiting
    here = (position-Some test waiting at d found).0

    is : (get_or waiting at d).number ≡ number
    is = eqb-true _ _ (position-Some test waiting at d found).1

    by : (k < at) ⊎ (at ≤ k) → (get_or (remove waiting at) k d).number ≢ number
    by (inl before) = rw (get_or-remove_below waiting at d k before here)
        (eqb-false _ _ ((position-Some test waiting at d found).2 k before))
    by (inr past) = rw (get_or-remove_above waiting at d k past here)
        (λ same. apart at (k + 1) d (omega (arith, past))
        (omega (arith, within, length-remove waiting at here)) (is ∙ sym same))
