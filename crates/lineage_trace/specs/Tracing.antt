-- The ancestors that a trace tells, and what is promised of them though it is not known which bytes
-- the scratch device holds.
use Rattle.std.specs.Prelude.{◌≡◌, List, [], Option, Some, None}
use Rattle.lc_base.specs.declared.row.Dep.{Dep}
use Rattle.root_laws.specs.declared.trace.Trace.{Trace}

-- The ancestors in a trace; none if there is no version.
abbrev pub ancestors_in : Option Trace → List Dep
ancestors_in None = []
ancestors_in (Some trace) = trace.ancestors

-- A trace is this one but for the ancestors. Whether there is a version, and its block, are the
-- same.
abbrev pub IsButForAncestors : Option Trace → Option Trace → Type 0
IsButForAncestors None told = told ≡ None
IsButForAncestors (Some trace) told =
    (others : List Dep) × (told ≡ Some (record { block = trace.block; ancestors = others }))
