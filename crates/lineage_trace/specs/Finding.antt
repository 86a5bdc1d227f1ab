-- What a lookup says of a version if a body may say anything.
use Rattle.std.specs.Prelude.{◌≡◌, List, Option, Some, None}
use Rattle.lc_base.specs.declared.row.Dep.{Dep}
use Rattle.lc_base.specs.declared.row.Row.{Row}
use Rattle.row_walks.specs.declared.finding.Derived.{Derived}

-- What was found is this row but for its dependencies; nothing was found if there is no row.
abbrev pub IsButForDeps : Option Row → Option Derived → Type 0
IsButForDeps None found = found ≡ None
IsButForDeps (Some row) found =
    (others : List Dep) × (found ≡ Some (record { block = row.block; deps = others }))
