-- How many versions are looked at on the way to a version and all of its ancestors.
use Rattle.std.specs.Prelude.{ℕ, ◌+◌, ◌*◌, ◌^◌, ◌<◌, ◌≤◌, List, [], ◌∷◌, length}
use Rattle.std.specs.Prelude.{Option, Some, None}
use Rattle.std.specs.List.{All}
use Rattle.lc_base.specs.declared.row.Dep.{Dep}
use Rattle.lc_base.specs.declared.row.Row.{Row}
use Rattle.lc_base.specs.History.{IsLawful, latest}
use Rattle.skip_links.specs.Paths.{path, binary_digits}
use Rattle.root_laws.specs.Ancestors.{ancestors}

-- The number of versions that lookups of some versions look at, each up to its own block.
abbrev pub steps_of : List Row → List Dep → ℕ
steps_of rows [] = 0
steps_of rows (version ∷ versions) =
    length (path rows version.key version.block) + steps_of rows versions

-- The ancestors of a row; none if there is no row.
abbrev pub ancestors_if_any : List Row → Option Row → List Dep
ancestors_if_any rows None = []
ancestors_if_any rows (Some row) = ancestors rows row

-- The number of versions that the lookup of the last version of a key up to a block and the lookups
-- of its ancestors look at.
abbrev pub trace_steps : List Row → List ℕ → ℕ → ℕ
trace_steps rows key at =
    length (path rows key at) + steps_of rows (ancestors_if_any rows (latest rows key at))

-- If the rows of a lawful history are of blocks up to `head`, the steps for a version with N
-- ancestors are at most (N + 1) · (2 · B + 2), where B is the number of binary digits of `head`.
abbrev pub TraceStepsAreFew : Type 0
TraceStepsAreFew =
    (rows : List Row) (key : List ℕ) (at head : ℕ) → IsLawful rows
    → All (λ (row : Row). row.block ≤ head) rows → head < 2 ^ 32
    → trace_steps rows key at
    ≤ (length (ancestors_if_any rows (latest rows key at)) + 1) * (2 * binary_digits head + 2)
