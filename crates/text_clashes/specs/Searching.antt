-- The first clash of given texts with others, while those come one after another.
use Rattle.std.specs.Prelude.{◌≡◌, ◌++◌, nat_lt, if◌then◌else◌, ℕ, List, Option, Some, None}
use Rattle.merkle_tree.specs.Clash.{Clash}
use Rattle.text_clashes.specs.declared.found.Found.{Found}
use Rattle.text_clashes.specs.FirstClash.{text_at, ClashAt, IsFirstAt}
use Rattle.text_clashes.specs.Search.{Search}

-- This is the first clash of two lists of texts, or `None` if they have no clash.
abbrev pub IsFirstFound : List (List ℕ) → List (List ℕ) → Option Found → Type 0
IsFirstFound given own None = (one other : ℕ) → ClashAt given own one other → ⊥
IsFirstFound given own (Some found) = (other : ℕ) × IsFirstAt given own (found.place, other)
    × (found.text ≡ text_at own other)

-- The search is for these given texts, and what it has found is their first clash with these other
-- texts.
abbrev pub HasSearched : List (List ℕ) → List (List ℕ) → Search → Type 0
HasSearched given own search = (search.given ≡ given) × IsFirstFound given own search.found

-- These texts were added from one state of a search to the other: if what was found before is the
-- first clash with some texts, what is found now is that with those texts and these behind them.
abbrev pub Searches : List (List ℕ) → Search → Search → Type 0
Searches texts old new = (given own : List (List ℕ)) → HasSearched given own old
    → HasSearched given (own ++ texts) new

-- The texts of the first clash of two lists, one of each, or `None` if they have no clash.
abbrev pub IsFirstPair : List (List ℕ) → List (List ℕ) → Option (List ℕ × List ℕ) → Type 0
IsFirstPair given own None = Clash given own → ⊥
IsFirstPair given own (Some texts) = (pair : ℕ × ℕ) × IsFirstAt given own pair
    × (texts.0 ≡ text_at given pair.0) × (texts.1 ≡ text_at own pair.1)

-- The first clash, after a text came whose first clash is with the given text at this place.
abbrev pub found_with : Option Found → ℕ → List ℕ → Option Found
found_with None place text = Some (record { place = place; text = text })
found_with (Some before) place text = if nat_lt place before.place
    then Some (record { place = place; text = text }) else Some before
