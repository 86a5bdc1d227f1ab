-- How a count of the versions that lookups look at rises.
use Rattle.std.specs.Prelude.{◌≤◌, ℕ}
use Rattle.entry_store.specs.Steps.{raised_count}

-- A count rises, and by no more than `most`.
abbrev pub RisesUpTo : ℕ → ℕ → ℕ → Type 0
RisesUpTo most before after = (before ≤ after) × (after ≤ raised_count before most)
