-- A version is the last of its key up to its own block.
use Rattle.std.proofs.Common.{◌≡◌, ◌∙◌, ℕ, suc, true, false, ◌==◌, nat_le, List}
use Rattle.std.proofs.Common.{get_or, Some, sym, ap, ap₂, arith, inl}
use Rattle.std.proofs.Common.{inr}
use Rattle.std.specs.List.{AllPairs, Contains}
use Rattle.std.specs.Cmp.Lexicographic.{pointwise}
use Rattle.std.proofs.lemmas.Bool.{cases_Bool, and_from, and_left, and_right, le-leb, lt-leb}
use Rattle.std.proofs.lemmas.List.{get_or_default}
use Rattle.lc_base.specs.declared.row.Dep.{Dep}
use Rattle.lc_base.specs.declared.row.Row.{Row}
use Rattle.lc_base.specs.History.{IsLawful, StandsBefore, is_version, latest}
use Rattle.plain_rows.proofs.LastPlace.{FailsFrom, last_passes}
use Rattle.root_laws.proofs.Keys.{same_key, key_is_key}
use Rattle.root_laws.specs.Ancestors.{row_in, deps_of, deps_in}
use Rattle.root_laws.proofs.Versions.{IsVersion, version_found}

-- A later row is of a later block or of another key.
later_fails : (row later : Row) → StandsBefore row later
    → is_version row.key row.block later ≡ false
later_fails row later (inl less) =
    and_right (pointwise ◌==◌ later.key row.key) (nat_le later.block row.block)
    (lt-leb later.block row.block less)
later_fails row later (inr same) =
    and_left (pointwise ◌==◌ later.key row.key) (nat_le later.block row.block) apart
  where
    apart : pointwise ◌==◌ later.key row.key ≡ false
    apart = elim (cases_Bool (pointwise ◌==◌ later.key row.key)) [
      | inr f ↦ f
      | inl t ↦ absurd (same.2 (sym (same_key later.key row.key t)))
    ]

latest_at : (rows : List Row) (row : Row) → AllPairs StandsBefore rows → Contains rows row
    → latest rows row.key row.block ≡ Some row
latest_at rows row ordered (i, low, is) =
    last_passes (is_version row.key row.block) rows i row low
    (ap (is_version row.key row.block) is ∙ own) later ∙ ap (λ (r : Row). Some r) is
  where
    own : is_version row.key row.block row ≡ true
    own = and_from (pointwise ◌==◌ row.key row.key) (nat_le row.block row.block)
        (key_is_key row.key) (le-leb row.block row.block (omega arith))

    later : FailsFrom (is_version row.key row.block) rows (suc i)
    later j d past within =
        ap₂ (λ (r : Row) (l : Row). is_version r.key r.block l) (sym is)
        (get_or_default rows j d row within)
        ∙ later_fails (get_or rows i row) (get_or rows j row)
        (ordered i j row (omega (arith, past)) within)

pub last_up_to_itself : (rows : List Row) (version : Dep) → IsLawful rows → IsVersion rows version
    → row_in rows version ≡ latest rows version.key version.block
last_up_to_itself rows version lawful is =
    version_found rows version lawful is
    ∙ sym (ap₂ (λ (key : List ℕ) (block : ℕ). latest rows key block) (sym is.key_is)
    (sym is.block_is) ∙ latest_at rows is.row lawful.ordered is.there)

pub deps_at : (rows : List Row) (version : Dep) → IsLawful rows → IsVersion rows version
    → deps_in rows version ≡ deps_of (latest rows version.key version.block)
deps_at rows version lawful is = ap deps_of (last_up_to_itself rows version lawful is)
