-- The items of versions.
use Rattle.std.specs.Prelude.{◌≡◌, List, [], ◌∷◌, ◌++◌, Option, Some, None}
use Rattle.lc_base.specs.declared.row.Dep.{Dep}
use Rattle.lc_base.specs.declared.row.Row.{Row}
use Rattle.lc_base.specs.History.{latest}
use Rattle.root_laws.specs.Ancestors.{row_in}
use Rattle.proof_checks.specs.declared.trace_proof.TraceItem.{TraceItem}

-- The row of a version is the last one of its key up to its block, as each version of a lawful
-- history is.
abbrev pub IsLastUpToItself : List Row → Dep → Type 0
IsLastUpToItself rows version = row_in rows version ≡ latest rows version.key version.block

-- Items with one more, if there is one.
abbrev pub with_item : List TraceItem → Option TraceItem → List TraceItem
with_item items None = items
with_item items (Some item) = items ++ item ∷ []
