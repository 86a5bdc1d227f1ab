-- What is found in the table of a list is the first other text of the digest that is looked up.
use Rattle.std.proofs.Common.{◌≡◌, ℕ, ◌<◌, Bool, true, false, cond, List, length, Option, Some, None, refl, subst}
use Rattle.std.specs.Prelude.{◌==◌, IfSome}
use Rattle.std.specs.Cmp.Lexicographic.{pointwise, bytes_decides}
use Rattle.std.proofs.lemmas.Bool.{both_ways}
use Rattle.sha2.specs.Sha256.{sha256}
use Rattle.text_clashes.specs.declared.table.Places.{Places}
use Rattle.text_clashes.specs.FirstClash.{text_at}
use Rattle.text_clashes.specs.Places.{IsFirstOther, ArePlaces, IsEntry, other_in}

pub entry_within : (digest : List ℕ) (texts : List (List ℕ)) (entry : Option Places) → IsEntry digest texts entry → IfSome entry (λ places. places.first < length texts)
entry_within digest texts None is = tt
entry_within digest texts (Some places) is = is.within

found : (texts : List (List ℕ)) (text : List ℕ) (places : Places) → ArePlaces (sha256 text) texts places → (same : Bool) → pointwise ◌==◌ (text_at texts places.first) text ≡ same
    → IsFirstOther text texts (cond same places.other (Some places.first))
found texts text places are true f = subst (λ (t : List ℕ). IsFirstOther t texts places.other) ((bytes_decides (text_at texts places.first) text).0 f) are.other_is
found texts text places are false f = record {
  within = are.within;
  differs = λ is. both_ways _ f ((bytes_decides (text_at texts places.first) text).1 is);
  same = are.has;
  before = λ i low same. absurd (are.none_before i low same);
}

pub other_found : (texts : List (List ℕ)) (text : List ℕ) (entry : Option Places) → IsEntry (sha256 text) texts entry → IsFirstOther text texts (other_in texts text entry)
other_found texts text None none = λ i within same. absurd (none i within same)
other_found texts text (Some places) are = found texts text places are (pointwise ◌==◌ (text_at texts places.first) text) refl
