-- The first clash of two lists of texts.
use Rattle.std.specs.Prelude.{◌≡◌, ◌≢◌, ◌⊎◌, ◌<◌, ◌≤◌, ℕ, List, [], length, slice_index_or, Option, Some, None}
use Rattle.sha2.specs.Sha256.{sha256}
use Rattle.merkle_tree.specs.Clash.{Clash}

-- The text at a place, from 0.
abbrev pub text_at : List (List ℕ) → ℕ → List ℕ
text_at texts place = slice_index_or texts place []

-- The texts at these places, one of each list, differ and have one digest.
pub record ClashAt (given own : List (List ℕ)) (one other : ℕ) : Type 0 where
  pub one_within : one < length given
  pub other_within : other < length own
  pub differ : text_at given one ≢ text_at own other
  pub same : sha256 (text_at given one) ≡ sha256 (text_at own other)

-- The texts at these places clash, and each other pair of places whose texts clash comes later, by
-- the place in the first list and then by that in the second.
pub record IsFirstAt (given own : List (List ℕ)) (pair : ℕ × ℕ) : Type 0 where
  pub clash : ClashAt given own pair.0 pair.1
  pub first : (one other : ℕ) → ClashAt given own one other → (pair.0 < one) ⊎ ((pair.0 ≡ one) × (pair.1 ≤ other))

-- The places of the first clash, or `None` if the lists have no clash.
abbrev pub IsFirstClash : List (List ℕ) → List (List ℕ) → Option (ℕ × ℕ) → Type 0
IsFirstClash given own None = Clash given own → ⊥
IsFirstClash given own (Some pair) = IsFirstAt given own pair
