-- The places of the texts of a list that have one digest: the first, and the first whose text
-- differs from it.
use Rattle.std.specs.Prelude.{◌≡◌, ◌≢◌, ◌<◌, ◌==◌, ◌&&◌, not, if◌then◌else◌, ℕ, List, length, Option, Some, None, is_none}
use Rattle.std.specs.Ordering.{nat_cmp}
use Rattle.std.specs.Cmp.Lexicographic.{pointwise, slice_cmp}
use Rattle.std.specs.BTreeMap.{BTreeMap, get}
use Rattle.sha2.specs.Sha256.{sha256}
use Rattle.text_clashes.specs.declared.table.Places.{Places}
use Rattle.text_clashes.specs.FirstClash.{text_at}

-- Each of the first `end` texts of a list that has the digest of this text is this text.
abbrev pub AgreesBefore : List ℕ → List (List ℕ) → ℕ → Type 0
AgreesBefore text texts end = (i : ℕ) → i < end → sha256 (text_at texts i) ≡ sha256 text → text_at texts i ≡ text

-- The text at this place differs from this one and has its digest, and no text before it does.
pub record IsOtherAt (text : List ℕ) (texts : List (List ℕ)) (place : ℕ) : Type 0 where
  pub within : place < length texts
  pub differs : text_at texts place ≢ text
  pub same : sha256 (text_at texts place) ≡ sha256 text
  pub before : AgreesBefore text texts place

-- The first place of a text that differs from this one and has its digest, or `None` if there is
-- none.
abbrev pub IsFirstOther : List ℕ → List (List ℕ) → Option ℕ → Type 0
IsFirstOther text texts None = AgreesBefore text texts (length texts)
IsFirstOther text texts (Some place) = IsOtherAt text texts place

-- None of the first `end` texts of a list has this digest.
abbrev pub HasNoneBefore : List ℕ → List (List ℕ) → ℕ → Type 0
HasNoneBefore digest texts end = (i : ℕ) → i < end → sha256 (text_at texts i) ≢ digest

-- These are the places of the texts of a list that have this digest.
pub record ArePlaces (digest : List ℕ) (texts : List (List ℕ)) (places : Places) : Type 0 where
  pub within : places.first < length texts
  pub has : sha256 (text_at texts places.first) ≡ digest
  pub none_before : HasNoneBefore digest texts places.first
  pub other_is : IsFirstOther (text_at texts places.first) texts places.other

-- The places of the texts of a list that have this digest, or `None` if there is none.
abbrev pub IsEntry : List ℕ → List (List ℕ) → Option Places → Type 0
IsEntry digest texts None = HasNoneBefore digest texts (length texts)
IsEntry digest texts (Some places) = ArePlaces digest texts places

-- The entry of a table for a digest.
abbrev pub entry_of : BTreeMap (List ℕ) Places → List ℕ → Option Places
entry_of table digest = get (slice_cmp nat_cmp) table digest

-- The table of a list has, for each digest, the places of its texts.
abbrev pub IsTable : List (List ℕ) → BTreeMap (List ℕ) Places → Type 0
IsTable texts table = (digest : List ℕ) → IsEntry digest texts (entry_of table digest)

-- The places of the texts of one digest, after one more text that has it was added behind these.
abbrev pub places_with : List (List ℕ) → List ℕ → Places → Places
places_with texts text places =
    if is_none places.other && not (pointwise ◌==◌ (text_at texts places.first) text)
    then record { first = places.first; other = Some (length texts) } else places

-- The places of the texts with the digest of this one, after this one was added behind these.
abbrev pub entry_with : List (List ℕ) → List ℕ → Option Places → Places
entry_with texts text None = record { first = length texts; other = None }
entry_with texts text (Some places) = places_with texts text places

-- The first place of a text that differs from this one and has its digest, by the places of the
-- texts with that digest.
abbrev pub other_in : List (List ℕ) → List ℕ → Option Places → Option ℕ
other_in texts text None = None
other_in texts text (Some places) = if pointwise ◌==◌ (text_at texts places.first) text then places.other else Some places.first
