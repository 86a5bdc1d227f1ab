-- Versions of a lawful history, and what they were derived from.
use Rattle.std.proofs.Common.{◌≡◌, ◌∙◌, ℕ, ◌<◌, List, reverse, Some, refl, sym, ap, ap₂, subst}
use Rattle.std.specs.List.{find, AllByRecursion, Contains}
use Rattle.std.proofs.lemmas.List.Elements.{recursion_from_All}
use Rattle.lc_base.specs.declared.row.Row.{Row}
use Rattle.lc_base.specs.declared.row.Dep.{Dep}
use Rattle.lc_base.specs.History.{IsLawful, HasLawfulDeps, IsRecordedFrom, version_of}
use Rattle.root_laws.specs.WalkLaws.{is_version_in}
use Rattle.root_laws.proofs.Lists.{all_weaker, contained}
use Rattle.root_laws.proofs.Headers.{recorded_is_older}
use Rattle.root_laws.proofs.Walking.{version_found as row_found}
use Rattle.root_laws.specs.Ancestors.{deps_of, deps_in}

-- The history has a row of this version.
pub record IsVersion (rows : List Row) (version : Dep) : Type 0 where
  pub row : Row
  pub there : Contains rows row
  pub key_is : row.key ≡ version.key
  pub block_is : row.block ≡ version.block

pub own_version : (rows : List Row) (row : Row) → Contains rows row
    → IsVersion rows (version_of row)
own_version rows row has = record { row = row; there = has; key_is = refl; block_is = refl }

-- The row is found by the version's key and block.
pub version_found : (rows : List Row) (version : Dep) (lawful : IsLawful rows)
    (is : IsVersion rows version)
    → find (is_version_in version.key version.block) (reverse rows) ≡ Some is.row
version_found rows version lawful is =
    ap₂ (λ (key : List ℕ) (block : ℕ). find (is_version_in key block) (reverse rows))
    (sym is.key_is) (sym is.block_is) ∙ row_found rows is.row lawful is.there

pub deps_in_is : (rows : List Row) (version : Dep) (lawful : IsLawful rows)
    (is : IsVersion rows version) → deps_in rows version ≡ is.row.deps
deps_in_is rows version lawful is = ap deps_of (version_found rows version lawful is)

-- A version of the history, of an earlier block than this one.
pub record IsEarlier (rows : List Row) (block : ℕ) (version : Dep) : Type 0 where
  pub is_version : IsVersion rows version
  pub before : version.block < block

-- What a row was derived from is earlier.
pub deps_are_earlier : (rows : List Row) (row : Row) → IsLawful rows → Contains rows row
    → AllByRecursion (IsEarlier rows row.block) row.deps
deps_are_earlier rows row lawful has =
    let deps : HasLawfulDeps rows row =
    contained (HasLawfulDeps rows) rows row
    (recursion_from_All (HasLawfulDeps rows) rows lawful.lawful_deps) has in
    all_weaker (IsRecordedFrom rows row) (IsEarlier rows row.block)
    (λ dep r. let o = recorded_is_older rows row dep r in
    record {
      is_version = record { row = o.0; there = o.1; key_is = o.2; block_is = o.3 };
      before = o.4;
    })
    row.deps (recursion_from_All (IsRecordedFrom rows row) row.deps deps.newest)

-- The same of what a version was derived from.
pub own_deps : (rows : List Row) (version : Dep) → IsLawful rows → IsVersion rows version
    → AllByRecursion (IsEarlier rows version.block) (deps_in rows version)
own_deps rows version lawful is =
    subst (λ (deps : List Dep). AllByRecursion (IsEarlier rows version.block) deps)
    (sym (deps_in_is rows version lawful is))
    (subst (λ (block : ℕ). AllByRecursion (IsEarlier rows block) is.row.deps) is.block_is
    (deps_are_earlier rows is.row lawful is.there))
