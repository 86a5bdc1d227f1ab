-- How many versions are looked at to find all versions between two blocks.
use Rattle.std.specs.Prelude.{◌≡◌, ℕ, ◌+◌, ◌*◌, ◌^◌, ◌<◌, ◌≤◌, List, [], ◌∷◌, length, Some, None}
use Rattle.lc_base.specs.declared.row.Row.{Row}
use Rattle.lc_base.specs.History.{IsLawful, newest}
use Rattle.skip_links.specs.Paths.{path, binary_digits}
use Rattle.root_laws.specs.Ranges.{rows_between}

-- One less than the number of rows; 0 if there are none.
abbrev pub all_but_one : List Row → ℕ
all_but_one [] = 0
all_but_one (row ∷ rows) = length rows

-- The number of versions that are looked at: those on the path of the lookup of the last version up
-- to `to`, and then, if there are versions between the blocks, the others of them. The path ends at
-- the last one.
abbrev pub range_steps : List Row → List ℕ → ℕ → ℕ → ℕ
range_steps rows key from to =
    length (path rows key to) + all_but_one (rows_between rows key from to)

-- No version is looked at if the key has none.
abbrev pub NoVersionsNoSteps : Type 0
NoVersionsNoSteps =
    (rows : List Row) (key : List ℕ) (from to : ℕ) → newest rows key ≡ None
    → range_steps rows key from to ≡ 0

-- In a lawful history, at most 2 · B + 2 versions are looked at besides those between the blocks,
-- where B is the number of binary digits of the newest version's block.
abbrev pub RangeStepsAreFew : Type 0
RangeStepsAreFew =
    (rows : List Row) (key : List ℕ) (from to : ℕ) (version : Row) → IsLawful rows
    → newest rows key ≡ Some version → version.block < 2 ^ 32
    → range_steps rows key from to
    ≤ length (rows_between rows key from to) + (2 * binary_digits version.block + 2)

-- In a lawful history, no version is looked at twice, so no more are than there are rows.
abbrev pub RangeStepsAreOfRows : Type 0
RangeStepsAreOfRows =
    (rows : List Row) (key : List ℕ) (from to : ℕ) → IsLawful rows
    → range_steps rows key from to ≤ length rows
