-- The first clash is at the first text for which another one is found.
use Rattle.std.proofs.Common.{◌≡◌, inl, inr, ℕ, ◌<◌, ◌≤◌, List, [], length, Some, None, sym, ap, ◌∙◌, arith}
use Rattle.std.specs.List.{Contains}
use Rattle.std.proofs.lemmas.Bool.{cases_lt}
use Rattle.std.proofs.lemmas.List.{get_or_default}
use Rattle.sha2.specs.Sha256.{sha256}
use Rattle.text_clashes.specs.FirstClash.{text_at, ClashAt, IsFirstClash}
use Rattle.text_clashes.specs.Places.{IsFirstOther}

-- none of the first texts of a list, `end` of them, clashes with one of the second list
abbrev pub NoneClashes : List (List ℕ) → List (List ℕ) → ℕ → Type 0
NoneClashes given own end = (i : ℕ) → i < end → IsFirstOther (text_at given i) own None

not_before : (given own : List (List ℕ)) (end one other : ℕ) → NoneClashes given own end → ClashAt given own one other → end ≤ one
not_before given own end one other none clash = elim (cases_lt one end) [
  | inl low ↦ absurd (clash.differ (sym (none one low other clash.other_within (sym clash.same))))
  | inr high ↦ omega (arith, high)
]

pub first_is : (given own : List (List ℕ)) (place other : ℕ) → place < length given → NoneClashes given own place → IsFirstOther (text_at given place) own (Some other) → IsFirstClash given own (Some (place, other))
first_is given own place other within none is = record {
  clash = record { one_within = within; other_within = is.within; differ = λ e. is.differs (sym e); same = sym is.same };
  first = λ one another clash.
      let later : place ≤ one = not_before given own place one another none clash in
      elim (cases_lt place one) [
        | inl low ↦ inl low
        | inr high ↦
            let same : one ≡ place = omega (arith, later, high) in
            inr (sym same, after one another clash same)
      ];
}
  where
    after : (one another : ℕ) → ClashAt given own one another → one ≡ place → other ≤ another
    after one another clash same = elim (cases_lt another other) [
      | inl low ↦
          let here : text_at given one ≡ text_at given place = ap (text_at given) same in
          absurd (clash.differ (here ∙ sym (is.before another low (sym clash.same ∙ ap sha256 here))))
      | inr high ↦ omega (arith, high)
    ]

-- if none clashes, there is no clash: each text that a list contains is at some place of it
pub none_is : (given own : List (List ℕ)) → NoneClashes given own (length given) → IsFirstClash given own None
none_is given own none clash =
    let one = placed given clash.one clash.in_given in
    let other = placed own clash.other clash.in_own in
    clash.differ (sym one.2 ∙ sym (none one.0 one.1 other.0 other.1 (ap sha256 other.2 ∙ sym clash.same ∙ ap sha256 (sym one.2))) ∙ other.2)
  where
    placed : (texts : List (List ℕ)) (text : List ℕ) → Contains texts text → (i : ℕ) × (i < length texts) × (text_at texts i ≡ text)
    placed texts text there = (there.0, there.1, get_or_default texts there.0 [] text there.1 ∙ there.2)
