-- Versions of keys, as a world keeps them.
use Rattle.std.specs.Prelude.{◌≡◌, ◌==◌, ℕ, Bool, List, find, reverse, Option}
use Rattle.std.specs.List.{list_any}
use Rattle.std.specs.Option.{option_map}
use Rattle.std.specs.Cmp.Lexicographic.{pointwise}
use Rattle.lc_base.specs.History.{newest}
use Rattle.lc_base.specs.declared.row.Row.{Row}
use Rattle.world_state.specs.declared.held.Held.{Held}

-- What is held of the version that a row is.
abbrev pub held_of : Row → Held
held_of row = record { block = row.block; value = row.value }

-- The key of a row, with what is held of its version.
abbrev pub entry_of : Row → List ℕ × Held
entry_of row = (row.key, held_of row)

-- Whether a version of the key is staged.
abbrev pub is_staged : List (List ℕ × Held) → List ℕ → Bool
is_staged staged key = list_any (λ (entry : List ℕ × Held). pointwise ◌==◌ entry.0 key) staged

-- The version of the key that was staged last.
abbrev pub newest_staged : List (List ℕ × Held) → List ℕ → Option Held
newest_staged staged key =
    option_map (λ (entry : List ℕ × Held). entry.1)
    (find (λ (entry : List ℕ × Held). pointwise ◌==◌ entry.0 key) (reverse staged))

-- The newest version of the key in rows.
abbrev pub held_in : List Row → List ℕ → Option Held
held_in rows key = option_map held_of (newest rows key)

-- A set has the keys that are staged and no other.
abbrev pub AreKeysOf : List (List ℕ) → List (List ℕ × Held) → Type 0
AreKeysOf keys staged = (key : List ℕ) → list_any (pointwise ◌==◌ key) keys ≡ is_staged staged key
