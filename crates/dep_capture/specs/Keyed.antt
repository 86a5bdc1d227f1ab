-- Lists whose items have keys: what is found by a key, and at which place.
use Rattle.std.specs.Prelude.{◌≡◌, ◌==◌, ℕ, Bool, List, [], ◌∷◌, ◌++◌, find, position, slice_set}
use Rattle.std.specs.Prelude.{Option, None, Some}
use Rattle.std.specs.List.{list_any}
use Rattle.std.specs.Ordering.{nat_cmp}
use Rattle.std.specs.BTreeMap.{BTreeMap, get}
use Rattle.std.specs.Cmp.Lexicographic.{pointwise, slice_cmp}

-- The place of the first item of the key, from 0.
abbrev pub place_of : {X : Type 0} → (X → List ℕ) → List X → List ℕ → Option ℕ
place_of key_of items key = position (λ item. pointwise ◌==◌ (key_of item) key) items

-- Whether the key has an item.
abbrev pub has_key : {X : Type 0} → (X → List ℕ) → List X → List ℕ → Bool
has_key key_of items key = list_any (λ item. pointwise ◌==◌ (key_of item) key) items

-- The first item of the key.
abbrev pub item_of : {X : Type 0} → (X → List ℕ) → List X → List ℕ → Option X
item_of key_of items key = find (λ item. pointwise ◌==◌ (key_of item) key) items

-- An item at a place, or after the others if there is no place.
abbrev pub with_item_at : {X : Type 0} → List X → Option ℕ → X → List X
with_item_at items None item = items ++ item ∷ []
with_item_at items (Some place) item = slice_set items place item

-- An item in the place of the earlier item of its key, or else after the others.
abbrev pub with_item : {X : Type 0} → (X → List ℕ) → List X → X → List X
with_item key_of items item = with_item_at items (place_of key_of items (key_of item)) item

-- A map has of each key the place of its item, and no other key.
abbrev pub ArePlaces : {X : Type 0} → (X → List ℕ) → BTreeMap (List ℕ) ℕ → List X → Type 0
ArePlaces key_of places items =
    (key : List ℕ) → get (slice_cmp nat_cmp) places key ≡ place_of key_of items key
