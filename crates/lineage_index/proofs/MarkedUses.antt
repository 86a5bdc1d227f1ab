-- The uses of a version: their versions, and the indexes of their rows.
use Rattle.std.proofs.Common.{◌≡◌, ℕ, suc, Bool, List, [], ◌∷◌, Option, Some, None, length, map}
use Rattle.std.proofs.Common.{filter, refl, ap, arith, inl, inr}
use Rattle.std.proofs.lemmas.Bool.{cases_Bool}
use Rattle.lc_base.specs.declared.row.Row.{Row}
use Rattle.lc_base.specs.declared.row.Dep.{Dep}
use Rattle.lc_base.specs.History.{depends_on, version_of}
use Rattle.plain_rows.specs.Places.{marks_of}
use Rattle.plain_rows.specs.Users.{number_of, users}
use Rattle.forward_links.specs.Lists.{Use, rows_of, versions_of}
use Rattle.plain_rows.specs.root_laws.Naming.{uses_of}
use Rattle.lineage_index.specs.Growth.{use_of, uses_at}

versions_marked : (passes : Row → Bool) (n : ℕ) (rows : List Row)
    → versions_of (marks_of use_of passes n rows) ≡ map version_of (filter passes rows)
versions_marked passes n [] = refl
versions_marked passes n (row ∷ rows) = elim (cases_Bool (passes row)) [
  | inl t ↦ rw t (ap (λ (deps : List Dep). version_of row ∷ deps) (versions_marked passes
      (suc n) rows))
  | inr f ↦ rw f (versions_marked passes (suc n) rows)
]

rows_marked : (passes : Row → Bool) (n : ℕ) (rows : List Row)
    → rows_of (marks_of use_of passes n rows) ≡ marks_of number_of passes n rows
rows_marked passes n [] = refl
rows_marked passes n (row ∷ rows) = elim (cases_Bool (passes row)) [
  | inl t ↦ rw t (ap (λ (indexes : List ℕ). n ∷ indexes) (rows_marked passes (suc n) rows))
  | inr f ↦ rw f (rows_marked passes (suc n) rows)
]

-- The versions of the uses are those of the definition.
pub versions_at : (rows : List Row) (key : List ℕ) (version : Option Row)
    → versions_of (uses_at rows key version) ≡ uses_of rows key version
versions_at rows key None = refl
versions_at rows key (Some version) = versions_marked (depends_on key version.block) 0 rows

-- The rows of the uses are those that were derived from the version.
pub rows_at : (rows : List Row) (version : Row)
    → rows_of (uses_at rows version.key (Some version)) ≡ users rows version
rows_at rows version = rows_marked (depends_on version.key version.block) 0 rows

pub none_at : (uses : List Use) → versions_of uses ≡ [] → uses ≡ []
none_at [] none = refl
none_at (use_ ∷ uses) none = absurd (omega (arith, ap length none))
