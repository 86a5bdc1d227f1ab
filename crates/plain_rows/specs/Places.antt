-- Where the versions of keys are in a history, and how that is kept.
use Rattle.std.specs.Prelude.{◌≡◌, ◌==◌, ℕ, suc, Bool, if◌then◌else◌, List, [], ◌∷◌, Option, None}
use Rattle.std.specs.Prelude.{Some, reverse, nat_le, slice_get}
use Rattle.std.specs.List.{find}
use Rattle.std.specs.BTreeMap.{BTreeMap, get}
use Rattle.std.specs.Option.{option_map}
use Rattle.std.specs.Ordering.{nat_cmp}
use Rattle.std.specs.Cmp.Lexicographic.{pointwise, slice_cmp}
use Rattle.lc_base.specs.declared.row.Row.{Row}
use Rattle.lc_base.specs.declared.row.Dep.{Dep}
use Rattle.plain_rows.specs.declared.places.Place.{Place}

-- What is kept of each item that passes a test, and of its index, in order; the first item has the
-- index n.
abbrev pub marks_of : {X A : Type 0} → (ℕ → X → A) → (X → Bool) → ℕ → List X → List A
marks_of keep passes n [] = []
marks_of keep passes n (x ∷ xs) =
    if passes x then keep n x ∷ marks_of keep passes (suc n) xs else marks_of keep passes (suc n) xs

-- Whether a row is a version of the key.
abbrev pub is_of : List ℕ → Row → Bool
is_of key row = pointwise ◌==◌ row.key key

-- The place of the row at this index.
abbrev pub place_of : ℕ → Row → Place
place_of n row = record { block = row.block; row = n }

-- The block of a place.
abbrev pub block_of : Place → ℕ
block_of place = place.block

-- The index of the row of a place.
abbrev pub row_index : Place → ℕ
row_index place = place.row

-- The places of the versions of the key, in order.
abbrev pub places : List Row → List ℕ → List Place
places rows key = marks_of place_of (is_of key) 0 rows

-- The list, or an empty one if there is none.
abbrev pub list_or_empty : {A : Type 0} → Option (List A) → List A
list_or_empty None = []
list_or_empty (Some list) = list

-- The places that are kept of a key.
abbrev pub places_in : BTreeMap (List ℕ) (List Place) → List ℕ → List Place
places_in kept key = list_or_empty (get (slice_cmp nat_cmp) kept key)

-- For each key the places of its versions are kept.
abbrev pub ArePlaces : List Row → BTreeMap (List ℕ) (List Place) → Type 0
ArePlaces rows kept = (key : List ℕ) → places_in kept key ≡ places rows key

-- The last place with a block up to this one.
abbrev pub last_up_to : ℕ → List Place → Option Place
last_up_to at places = find (λ place. nat_le place.block at) (reverse places)

-- The index of the last row of the key with a block up to this one.
abbrev pub index_up_to : List Row → List ℕ → ℕ → Option ℕ
index_up_to rows key at = option_map row_index (last_up_to at (places rows key))

-- The row at an index is this version.
abbrev pub StandsAt : List Row → Dep → ℕ → Type 0
StandsAt rows dep index = (row : Row) × (slice_get rows index ≡ Some row) × (row.key ≡ dep.key)
    × (row.block ≡ dep.block)

-- This is the row at the index; there is none if there is no index.
abbrev pub IsRowAt : List Row → Option ℕ → Option Row → Type 0
IsRowAt rows None found = found ≡ None
IsRowAt rows (Some index) found = (row : Row) × (found ≡ Some row)
    × (slice_get rows index ≡ Some row)
