-- A dependency is copied without its digest.
use Rattle.std.specs.Prelude.{List, [], ◌∷◌, ◌++◌, Option, Some, None}
use Rattle.lc_base.specs.declared.row.Dep.{Dep}
use Rattle.prov_entry.specs.declared.entry.BodyDep.{BodyDep}
use Rattle.proof_checks.specs.Checks.{dep_of}

-- The list with one more dependency, if there is one.
abbrev pub with_dep : List Dep → Option BodyDep → List Dep
with_dep list None = list
with_dep list (Some dep) = list ++ dep_of dep ∷ []
