-- Two lists of texts have exactly one first clash, or none: a contract may say which it is.
use Rattle.std.proofs.Common.{◌≡◌, ◌≢◌, ◌⊎◌, inl, inr, ℕ, zero, suc, ◌<◌, ◌≤◌, Bool, true, false, List, [], length, Option, Some, None, refl, ap, subst, ◌∙◌, arith}
use Rattle.std.specs.Prelude.{◌==◌}
use Rattle.std.specs.Cmp.Lexicographic.{pointwise, bytes_decides}
use Rattle.std.proofs.lemmas.Bool.{cases_lt, both_ways}
use Rattle.std.proofs.lemmas.List.{get_or_default}
use Rattle.sha2.specs.Sha256.{sha256}
use Rattle.merkle_tree.specs.Clash.{Clash}
use Rattle.text_clashes.specs.FirstClash.{text_at, ClashAt, IsFirstAt, IsFirstClash}
use Rattle.text_clashes.specs.Places.{AgreesBefore, IsOtherAt}
use Rattle.text_clashes.proofs.FirstPlaces.{NoneClashes, first_is, none_is}

-- ---- there is one, or there is none

same_or_not : (a b : List ℕ) → (a ≡ b) ⊎ (a ≢ b)
same_or_not a b = by (pointwise ◌==◌ a b) refl
  where
    by : (same : Bool) → pointwise ◌==◌ a b ≡ same → (a ≡ b) ⊎ (a ≢ b)
    by true f = inl ((bytes_decides a b).0 f)
    by false f = inr (λ equal. both_ways _ f ((bytes_decides a b).1 equal))

-- one more text agrees
agrees_more : (text : List ℕ) (texts : List (List ℕ)) (end : ℕ) → AgreesBefore text texts end → (sha256 (text_at texts end) ≡ sha256 text → text_at texts end ≡ text) → AgreesBefore text texts (suc end)
agrees_more text texts end agrees last i within same = elim (cases_lt i end) [
  | inl low ↦ agrees i low same
  | inr high ↦
      let is : end ≡ i = omega (arith, within, high) in
      subst (λ (n : ℕ). sha256 (text_at texts n) ≡ sha256 text → text_at texts n ≡ text) is last same
]

other_or_none : (text : List ℕ) (texts : List (List ℕ)) (end : ℕ) → end ≤ length texts → ((place : ℕ) × IsOtherAt text texts place) ⊎ AgreesBefore text texts end
other_or_none text texts zero low = inr (λ i within same. absurd (omega (arith, within)))
other_or_none text texts (suc end) low = elim (other_or_none text texts end (omega (arith, low))) [
  | inl found ↦ inl found
  | inr agrees ↦ elim (same_or_not (sha256 (text_at texts end)) (sha256 text)) [
    | inr other ↦ inr (agrees_more text texts end agrees (λ same. absurd (other same)))
    | inl same ↦ elim (same_or_not (text_at texts end) text) [
      | inl equal ↦ inr (agrees_more text texts end agrees (λ again. equal))
      | inr differs ↦ inl (end, record { within = omega (arith, low); differs = differs; same = same; before = agrees })
    ]
  ]
]

clash_or_none : (given own : List (List ℕ)) (end : ℕ) → end ≤ length given → ((pair : ℕ × ℕ) × IsFirstAt given own pair) ⊎ NoneClashes given own end
clash_or_none given own zero low = inr (λ i within. absurd (omega (arith, within)))
clash_or_none given own (suc end) low = elim (clash_or_none given own end (omega (arith, low))) [
  | inl found ↦ inl found
  | inr none ↦ elim (other_or_none (text_at given end) own (length own) (omega arith)) [
    | inl other ↦ inl ((end, other.0), first_is given own end other.0 (omega (arith, low)) none other.1)
    | inr agrees ↦ inr (λ i within. elim (cases_lt i end) [
      | inl before ↦ none i before
      | inr high ↦ let is : end ≡ i = omega (arith, within, high) in subst (λ (n : ℕ). AgreesBefore (text_at given n) own (length own)) is agrees
    ])
  ]
]

pub some_first_clash : (given own : List (List ℕ)) → (found : Option (ℕ × ℕ)) × IsFirstClash given own found
some_first_clash given own = elim (clash_or_none given own (length given) (omega arith)) [
  | inl found ↦ (Some found.0, found.1)
  | inr none ↦ (None, none_is given own none)
]

-- ---- and no other

clash_there : (given own : List (List ℕ)) (one other : ℕ) → ClashAt given own one other → Clash given own
clash_there given own one other at = record {
  one = text_at given one;
  other = text_at own other;
  in_given = (one, at.one_within, get_or_default given one (text_at given one) [] at.one_within);
  in_own = (other, at.other_within, get_or_default own other (text_at own other) [] at.other_within);
  differ = at.differ;
  same = at.same;
}

abbrev NotAfter : ℕ × ℕ → ℕ × ℕ → Type 0
NotAfter a b = (a.0 < b.0) ⊎ ((a.0 ≡ b.0) × (a.1 ≤ b.1))

one_pair : (i j k l : ℕ) → NotAfter (i, j) (k, l) → NotAfter (k, l) (i, j) → (i ≡ k) × (j ≡ l)
one_pair i j k l (inl low) (inl high) = absurd (omega (arith, low, high))
one_pair i j k l (inl low) (inr (same, up)) = absurd (omega (arith, low, same))
one_pair i j k l (inr (same, up)) (inl high) = absurd (omega (arith, high, same))
one_pair i j k l (inr (same, up)) (inr (again, down)) = (same, omega (arith, up, down))

pub one_first_clash : (given own : List (List ℕ)) (a b : Option (ℕ × ℕ)) → IsFirstClash given own a → IsFirstClash given own b → a ≡ b
one_first_clash given own None None is_a is_b = refl
one_first_clash given own None (Some (k, l)) none is = absurd (none (clash_there given own k l is.clash))
one_first_clash given own (Some (i, j)) None is none = absurd (none (clash_there given own i j is.clash))
one_first_clash given own (Some (i, j)) (Some (k, l)) is_a is_b =
    let same = one_pair i j k l (is_a.first k l is_b.clash) (is_b.first i j is_a.clash) in
    ap (λ (n : ℕ). Some (n, j)) same.0 ∙ ap (λ (n : ℕ). Some (k, n)) same.1
