-- The first clash, after one more text came.
use Rattle.std.proofs.Common.{◌≡◌, ◌⊎◌, inl, inr, ℕ, ◌<◌, ◌≤◌, Bool, cond, List, [], ◌∷◌, ◌++◌}
use Rattle.std.proofs.Common.{length, Option, Some, None, sym, ap, subst, ◌∙◌, arith, append-nil}
use Rattle.std.proofs.Common.{append_assoc}
use Rattle.std.specs.List.{Contains}
use Rattle.std.proofs.lemmas.List.{get_or_default}
use Rattle.std.proofs.lemmas.Bool.{cases_lt, lt-ltb, le-ltb}
use Rattle.sha2.specs.Sha256.{sha256}
use Rattle.merkle_tree.specs.Clash.{Clash}
use Rattle.text_clashes.specs.declared.found.Found.{Found}
use Rattle.text_clashes.specs.FirstClash.{text_at, ClashAt}
use Rattle.text_clashes.specs.Places.{IsOtherAt, IsFirstOther}
use Rattle.text_clashes.specs.Search.{Search}
use Rattle.text_clashes.specs.Searching.{IsFirstFound, HasSearched, Searches, found_with}
use Rattle.text_clashes.proofs.Adding.{longer, inside, at_end}

module _ (given own : List (List ℕ)) (text : List ℕ) where
  abbrev all : List (List ℕ)
  all = own ++ text ∷ []

  -- ---- a clash with the texts before, and one with the last

  still : (one other : ℕ) → ClashAt given own one other → ClashAt given all one other
  still one other clash = record {
    one_within = clash.one_within;
    other_within = let within = clash.other_within in omega (arith, within, longer own text);
    differ = λ same. clash.differ (same ∙ inside own text other clash.other_within);
    same = clash.same ∙ ap sha256 (sym (inside own text other clash.other_within));
  }

  before : (one other : ℕ) → other < length own → ClashAt given all one other → ClashAt given own one other
  before one other low clash = record {
    one_within = clash.one_within;
    other_within = low;
    differ = λ same. clash.differ (same ∙ sym (inside own text other low));
    same = clash.same ∙ ap sha256 (inside own text other low);
  }

  last_is : (one other : ℕ) → length own ≤ other → ClashAt given all one other → text_at all other ≡ text
  last_is one other high clash =
      let same : other ≡ length own = let within = clash.other_within in omega (arith, within, high, longer own text) in
      ap (text_at all) same ∙ at_end own text

  -- a clash with the last text is not with one of the given texts that agree with it
  not_agreeing : (one other end : ℕ) → length own ≤ other → ClashAt given all one other
      → ((i : ℕ) → i < end → sha256 (text_at given i) ≡ sha256 text → text_at given i ≡ text) → end ≤ one
  not_agreeing one other end high clash agrees = elim (cases_lt one end) [
    | inl low ↦
        let is = last_is one other high clash in
        absurd (clash.differ (agrees one low (clash.same ∙ ap sha256 is) ∙ sym is))
    | inr high ↦ high
  ]

  -- ---- if the last text doesn't clash

  pub none_more : (found : Option Found) → IsFirstOther text given None → IsFirstFound given own found → IsFirstFound given all found
  none_more None agrees none = λ one other clash. elim (cases_lt other (length own)) [
    | inl low ↦ none one other (before one other low clash)
    | inr high ↦
        let late = not_agreeing one other (length given) high clash agrees in
        let within = clash.one_within in
        absurd (omega (arith, late, within))
  ]
  none_more (Some found) agrees is = (
    is.0,
    record {
      clash = still found.place is.0 is.1.clash;
      first = λ one other clash. elim (cases_lt other (length own)) [
        | inl low ↦ is.1.first one other (before one other low clash)
        | inr high ↦
            let late = not_agreeing one other (length given) high clash agrees in
            let within = clash.one_within in
            absurd (omega (arith, late, within))
      ];
    },
    is.2 ∙ sym (inside own text is.0 is.1.clash.other_within),
  )

  -- ---- if it does

  -- it is the first clash if those before are with later given texts
  at_last : (place : ℕ) → IsOtherAt text given place
      → ((one other : ℕ) → ClashAt given own one other → place < one)
      → IsFirstFound given all (Some (record { place = place; text = text }))
  at_last place is later = (
    length own,
    record {
      clash = record {
        one_within = is.within;
        other_within = omega (arith, longer own text);
        differ = λ same. is.differs (same ∙ at_end own text);
        same = is.same ∙ ap sha256 (sym (at_end own text));
      };
      first = λ one other clash. elim (cases_lt other (length own)) [
        | inl low ↦ inl (later one other (before one other low clash))
        | inr high ↦
            let late = not_agreeing one other place high clash is.before in
            elim (cases_lt place one) [
              | inl low ↦ inl low
              | inr up ↦ inr (omega (arith, late, up), high)
            ]
      ];
    },
    sym (at_end own text),
  )

  -- the one before stays if it is with no later given text
  stays : (place : ℕ) (found : Found) → IsOtherAt text given place → found.place ≤ place
      → IsFirstFound given own (Some found) → IsFirstFound given all (Some found)
  stays place found is low first = (
    first.0,
    record {
      clash = still found.place first.0 first.1.clash;
      first = λ one other clash. elim (cases_lt other (length own)) [
        | inl early ↦ first.1.first one other (before one other early clash)
        | inr high ↦
            let late = not_agreeing one other place high clash is.before in
            let within = first.1.clash.other_within in
            elim (cases_lt found.place one) [
              | inl less ↦ inl less
              | inr up ↦ inr (omega (arith, late, low, up), omega (arith, within, high))
            ]
      ];
    },
    first.2 ∙ sym (inside own text first.0 first.1.clash.other_within),
  )

  pub some_more : (found : Option Found) (place : ℕ) → IsOtherAt text given place → IsFirstFound given own found
      → IsFirstFound given all (found_with found place text)
  some_more None place is none = at_last place is (λ one other clash. elim (none one other clash) [ ])
  some_more (Some found) place is first = by (cases_lt place found.place)
    where
      by : (place < found.place) ⊎ (found.place ≤ place) → IsFirstFound given all (found_with (Some found) place text)
      by (inl low) = subst (λ (earlier : Bool). IsFirstFound given all (cond earlier (Some (record { place = place; text = text })) (Some found)))
          (sym (lt-ltb place found.place low))
          (at_last place is (λ one other clash. elim (first.1.first one other clash) [
            | inl less ↦ omega (arith, less, low)
            | inr same ↦ let e = same.0 in omega (arith, e, low)
          ]))
      by (inr high) = subst (λ (earlier : Bool). IsFirstFound given all (cond earlier (Some (record { place = place; text = text })) (Some found)))
          (sym (le-ltb place found.place high)) (stays place found is high first)

-- ---- all texts

-- If no texts at two places clash, no two texts do: each text that a list contains is at some place
-- of it.
pub none_clash : (given own : List (List ℕ)) → IsFirstFound given own None → Clash given own → ⊥
none_clash given own none clash =
    let one = placed given clash.one clash.in_given in
    let other = placed own clash.other clash.in_own in
    none one.0 other.0 (record {
      one_within = one.1;
      other_within = other.1;
      differ = λ same. clash.differ (sym one.2 ∙ same ∙ other.2);
      same = ap sha256 one.2 ∙ clash.same ∙ ap sha256 (sym other.2);
    })
  where
    placed : (texts : List (List ℕ)) (text : List ℕ) → Contains texts text → (i : ℕ) × (i < length texts) × (text_at texts i ≡ text)
    placed texts text there = (there.0, there.1, get_or_default texts there.0 [] text there.1 ∙ there.2)

-- Nothing came.
pub searches_none : (search : Search) → Searches [] search search
searches_none search given own has = subst (λ (texts : List (List ℕ)). HasSearched given texts search) (sym (append-nil own)) has

-- Texts came, and then others.
pub searches_both : (first next : List (List ℕ)) (old mid new : Search) → Searches first old mid → Searches next mid new
    → Searches (first ++ next) old new
searches_both first next old mid new one two given own has =
    subst (λ (texts : List (List ℕ)). HasSearched given texts new) (append_assoc own first next) (two given (own ++ first) (one given own has))
