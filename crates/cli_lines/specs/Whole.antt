-- Inputs that are read whole, up to a bound.
use Rattle.std.specs.Prelude.{◌≡◌, ℕ, ◌+◌, ◌<◌, ◌≤◌, List, [], length, drop, Option, Some, None}
use Rattle.cli_lines.specs.declared.whole.TheConstants.{MAX_WHOLE_INPUT_BYTES}

-- The whole input was read, which is at most MAX_WHOLE_INPUT_BYTES long; or it is longer, and one
-- byte more than that was taken.
abbrev pub IsWholeInput : Option (List ℕ) → List ℕ → Option (List ℕ) → Type 0
IsWholeInput (Some bytes) input left = (bytes ≡ input) × (length input ≤ MAX_WHOLE_INPUT_BYTES) × (left ≡ Some [])
IsWholeInput None input left = (MAX_WHOLE_INPUT_BYTES < length input) × (left ≡ Some (drop (MAX_WHOLE_INPUT_BYTES + 1) input))
