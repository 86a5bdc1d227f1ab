-- The table of a list, after one text more, is the table of the longer list.
use Rattle.std.proofs.Common.{◌≡◌, ◌≢◌, inl, inr, ℕ, ◌+◌, ◌<◌, ◌≤◌, Bool, true, false, cond, not, ◌&&◌, List, [], ◌∷◌, ◌++◌, length, Option, Some, None, refl, sym, ap, subst, ◌∙◌, arith}
use Rattle.std.specs.Prelude.{◌==◌, is_none}
use Rattle.std.specs.Ordering.{nat_cmp, is_eq}
use Rattle.std.specs.BTreeMap.{BTreeMap}
use Rattle.std.specs.Cmp.Lexicographic.{pointwise, slice_cmp, bytes_decides}
use Rattle.std.proofs.lemmas.Bool.{cases_lt, both_ways}
use Rattle.std.proofs.lemmas.Map.Text.{is_eq-slice_cmp}
use Rattle.std.proofs.lemmas.List.{length-append, get_or_append_left, get_or_push}
use Rattle.sha2.specs.Sha256.{sha256}
use Rattle.text_clashes.specs.declared.table.Places.{Places}
use Rattle.text_clashes.specs.FirstClash.{text_at}
use Rattle.text_clashes.specs.Places.{IsOtherAt, IsFirstOther, ArePlaces, IsEntry, IsTable, places_with, entry_with, entry_of}

module _ (texts : List (List ℕ)) (last : List ℕ) where
  abbrev pub more : List (List ℕ)
  more = texts ++ last ∷ []

  pub longer : length more ≡ length texts + 1
  longer = length-append texts (last ∷ [])

  pub inside : (i : ℕ) → i < length texts → text_at more i ≡ text_at texts i
  inside i within = get_or_append_left texts (last ∷ []) [] i within

  pub at_end : text_at more (length texts) ≡ last
  at_end = get_or_push texts last [] (length texts) refl

  -- what holds of each text before, and of the last one, holds of all
  each_more : (P : List ℕ → Type 0) → ((i : ℕ) → i < length texts → P (text_at texts i)) → P last → (i : ℕ) → i < length more → P (text_at more i)
  each_more P each end i within = elim (cases_lt i (length texts)) [
    | inl low ↦ subst P (sym (inside i low)) (each i low)
    | inr high ↦ let same : length texts ≡ i = omega (arith, high, within, longer) in subst (λ (n : ℕ). P (text_at more n)) same (subst P (sym at_end) end)
  ]

  each_before : (P : List ℕ → Type 0) (end : ℕ) → end ≤ length texts → ((i : ℕ) → i < end → P (text_at texts i)) → (i : ℕ) → i < end → P (text_at more i)
  each_before P end low each i within = subst P (sym (inside i (omega (arith, low, within)))) (each i within)

  -- ---- the first other text

  other_stays : (text : List ℕ) (place : ℕ) → IsOtherAt text texts place → IsOtherAt text more place
  other_stays text place is = record {
    within = let within = is.within in omega (arith, within, longer);
    differs = subst (λ (t : List ℕ). t ≢ text) (sym (inside place is.within)) is.differs;
    same = ap sha256 (inside place is.within) ∙ is.same;
    before = each_before (λ (t : List ℕ). sha256 t ≡ sha256 text → t ≡ text) place (let within = is.within in omega (arith, within)) is.before;
  }

  -- the last one is no other
  still_none : (text : List ℕ) → IsFirstOther text texts None → (sha256 last ≡ sha256 text → last ≡ text) → IsFirstOther text more None
  still_none text none end = each_more (λ (t : List ℕ). sha256 t ≡ sha256 text → t ≡ text) none end

  still : (text : List ℕ) (other : Option ℕ) → IsFirstOther text texts other → (sha256 last ≡ sha256 text → last ≡ text) → IsFirstOther text more other
  still text None is end = still_none text is end
  still text (Some place) is end = other_stays text place is

  -- the last one is the first other
  found_last : (text : List ℕ) → IsFirstOther text texts None → last ≢ text → sha256 last ≡ sha256 text → IsFirstOther text more (Some (length texts))
  found_last text none differs same = record {
    within = omega (arith, longer);
    differs = subst (λ (t : List ℕ). t ≢ text) (sym at_end) differs;
    same = ap sha256 at_end ∙ same;
    before = each_before (λ (t : List ℕ). sha256 t ≡ sha256 text → t ≡ text) (length texts) (omega arith) none;
  }

  -- ---- an entry of the table

  -- of another digest than that of the last one
  entry_stays : (digest : List ℕ) (entry : Option Places) → IsEntry digest texts entry → sha256 last ≢ digest → IsEntry digest more entry
  entry_stays digest None none other = each_more (λ (t : List ℕ). sha256 t ≢ digest) none other
  entry_stays digest (Some places) are other =
      let first : text_at more places.first ≡ text_at texts places.first = inside places.first are.within in
      record {
        within = let within = are.within in omega (arith, within, longer);
        has = ap sha256 first ∙ are.has;
        none_before = each_before (λ (t : List ℕ). sha256 t ≢ digest) places.first (let within = are.within in omega (arith, within)) are.none_before;
        other_is = subst (λ (t : List ℕ). IsFirstOther t more places.other) (sym first) (still (text_at texts places.first) places.other are.other_is (λ same. absurd (other (same ∙ are.has))));
      }

  -- the last one is the first of its digest
  entry_new : (digest : List ℕ) → IsEntry digest texts None → sha256 last ≡ digest → IsEntry digest more (Some (entry_with texts last None))
  entry_new digest none is = record {
    within = omega (arith, longer);
    has = ap sha256 at_end ∙ is;
    none_before = each_before (λ (t : List ℕ). sha256 t ≢ digest) (length texts) (omega arith) none;
    other_is = subst (λ (t : List ℕ). IsFirstOther t more None) (sym at_end) (still_none last (λ i within same. absurd (none i within (same ∙ is))) (λ same. refl));
  }

  abbrev EntryIs : List ℕ → Places → Option ℕ → Bool → Type 0
  EntryIs digest places other same =
      ArePlaces digest more (cond (is_none other && not same) (record { first = places.first; other = Some (length texts) }) (record { first = places.first; other = other }))

  -- the last one is a later one of its digest
  entry_more : (digest : List ℕ) (places : Places) → ArePlaces digest texts places → sha256 last ≡ digest → IsEntry digest more (Some (places_with texts last places))
  entry_more digest places are is = by places.other are.other_is (pointwise ◌==◌ (text_at texts places.first) last) refl
    where
      first : text_at more places.first ≡ text_at texts places.first
      first = inside places.first are.within

      made : (other : Option ℕ) → IsFirstOther (text_at texts places.first) more other → ArePlaces digest more (record { first = places.first; other = other })
      made other h = record {
        within = let within = are.within in omega (arith, within, longer);
        has = ap sha256 first ∙ are.has;
        none_before = each_before (λ (t : List ℕ). sha256 t ≢ digest) places.first (let within = are.within in omega (arith, within)) are.none_before;
        other_is = subst (λ (t : List ℕ). IsFirstOther t more other) (sym first) h;
      }

      by : (other : Option ℕ) → IsFirstOther (text_at texts places.first) texts other → (same : Bool) → pointwise ◌==◌ (text_at texts places.first) last ≡ same → EntryIs digest places other same
      by (Some place) h same f = made (Some place) (other_stays (text_at texts places.first) place h)
      by None h true f = made None (still_none (text_at texts places.first) h (λ equal. sym ((bytes_decides (text_at texts places.first) last).0 f)))
      by None h false f = made (Some (length texts)) (found_last (text_at texts places.first) h (λ same. absurd (both_ways _ f ((bytes_decides (text_at texts places.first) last).1 (sym same)))) (is ∙ sym are.has))

  -- ---- the table

  pub entry_after : (entry : Option Places) → IsEntry (sha256 last) texts entry → IsEntry (sha256 last) more (Some (entry_with texts last entry))
  entry_after None none = entry_new (sha256 last) none refl
  entry_after (Some places) are = entry_more (sha256 last) places are refl

  pub table_after : (table new : BTreeMap (List ℕ) Places) → IsTable texts table
      → ((digest : List ℕ) → entry_of new digest ≡ cond (is_eq (slice_cmp nat_cmp (sha256 last) digest)) (Some (entry_with texts last (entry_of table (sha256 last)))) (entry_of table digest)) → IsTable more new
  table_after table new is added digest = subst (IsEntry digest more) (sym (added digest)) (by (is_eq (slice_cmp nat_cmp (sha256 last) digest)) refl)
    where
      equal_is : is_eq (slice_cmp nat_cmp (sha256 last) digest) ≡ pointwise ◌==◌ (sha256 last) digest
      equal_is = is_eq-slice_cmp (sha256 last) digest

      by : (same : Bool) → is_eq (slice_cmp nat_cmp (sha256 last) digest) ≡ same → IsEntry digest more (cond same (Some (entry_with texts last (entry_of table (sha256 last)))) (entry_of table digest))
      by true f =
          let equal : sha256 last ≡ digest = (bytes_decides (sha256 last) digest).0 (sym equal_is ∙ f) in
          subst (λ (d : List ℕ). IsEntry d more (Some (entry_with texts last (entry_of table (sha256 last))))) equal (entry_after (entry_of table (sha256 last)) (is (sha256 last)))
      by false f = entry_stays digest (entry_of table digest) (is digest) (λ equal. both_ways _ f (equal_is ∙ (bytes_decides (sha256 last) digest).1 equal))
