-- Laws of ancestors: which versions they are, in which order, and how many.
use Rattle.std.specs.Prelude.{◌≡◌, ◌≤◌, true, List, [], ◌∷◌, length}
use Rattle.std.specs.List.{AllPairs, Contains}
use Rattle.lc_base.specs.declared.row.Dep.{Dep}
use Rattle.lc_base.specs.declared.row.Row.{Row}
use Rattle.lc_base.specs.History.{IsLawful}
use Rattle.root_laws.specs.Ancestors.{comes_after, deps_in, ancestors}

-- Steps lead from some versions to one: the first step is one of these versions, each further step
-- is one of those that the step before was derived from, and the last step is the one version.
abbrev pub LeadsTo : List Row → List Dep → List Dep → Dep → Type 0
LeadsTo rows first [] version = ⊥
LeadsTo rows first (step ∷ []) version = Contains first step × (step ≡ version)
LeadsTo rows first (step ∷ next ∷ steps) version =
    Contains first step × LeadsTo rows (deps_in rows step) (next ∷ steps) version

-- A version is reached from a row by one or more dependencies.
abbrev pub IsReached : List Row → Row → Dep → Type 0
IsReached rows row version = (steps : List Dep) × LeadsTo rows row.deps steps version

-- Each ancestor of a row of a lawful history is reached from it.
abbrev pub AncestorsAreReached : Type 0
AncestorsAreReached =
    (rows : List Row) (row : Row) (version : Dep) → IsLawful rows → Contains rows row
    → Contains (ancestors rows row) version → IsReached rows row version

-- Each version that is reached from a row of a lawful history is its ancestor.
abbrev pub ReachedVersionsAreAncestors : Type 0
ReachedVersionsAreAncestors =
    (rows : List Row) (row : Row) (version : Dep) → IsLawful rows → Contains rows row
    → IsReached rows row version → Contains (ancestors rows row) version

-- Each ancestor comes after all before it. So none is there twice.
abbrev pub AncestorsRise : Type 0
AncestorsRise =
    (rows : List Row) (row : Row) → IsLawful rows → Contains rows row
    → AllPairs (λ (version next : Dep). comes_after next version ≡ true) (ancestors rows row)

-- A row has no more ancestors than there are rows.
abbrev pub AncestorsAreFew : Type 0
AncestorsAreFew = (rows : List Row) (row : Row) → length (ancestors rows row) ≤ length rows
