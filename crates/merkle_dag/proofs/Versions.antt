-- The versions at indexes of rows.
use Rattle.std.proofs.Common.{◌≡◌, ◌∙◌, ℕ, ◌+◌, ◌<◌, List, [], ◌∷◌, ◌++◌, length, get_or, take}
use Rattle.std.proofs.Common.{Option, Some, None, refl, sym, ap, arith}
use Rattle.std.specs.Prelude.{slice_get}
use Rattle.std.specs.Option.{option_map}
use Rattle.std.proofs.lemmas.List.{take_more}
use Rattle.std.proofs.lemmas.Option.{get_or_from_slice_get, none-some, same_Some}
use Rattle.std.proofs.lemmas.Option.{slice_get-get_or, slice_get_within}
use Rattle.lc_base.specs.declared.row.Row.{Row}
use Rattle.lc_base.specs.declared.row.Dep.{Dep}
use Rattle.lc_base.specs.History.{version_of}
use Rattle.lineage_rewind.specs.plain_rows.Users.{AreVersionsAt, version_at}
use Rattle.lineage_rewind.proofs.plain_rows.Lists.{as_long, version_there}

-- the row at an index, where a version is there
row_of_version : (rows : List Row) (index : ℕ) (dep : Dep) → version_at rows index ≡ Some dep
    → (row : Row) × (slice_get rows index ≡ Some row) × (version_of row ≡ dep)
row_of_version rows index dep e = go (slice_get rows index) refl e
  where
    go : (o : Option Row) → slice_get rows index ≡ o → option_map version_of o ≡ Some dep
        → (row : Row) × (slice_get rows index ≡ Some row) × (version_of row ≡ dep)
    go None is e = absurd (none-some dep e)
    go (Some row) is e = (row, is, same_Some (version_of row) dep e)

pub version_row : (rows : List Row) (places : List ℕ) (deps : List Dep) (i place : ℕ)
    → AreVersionsAt rows places deps → slice_get places i ≡ Some place
    → (row : Row) × (slice_get rows place ≡ Some row) × (i < length deps)
    × ((dep : Dep) → version_of row ≡ get_or deps i dep)
version_row rows places deps i place are is =
    let long = as_long rows places deps are in
    let l = slice_get_within places i place is in
    let within : i < length deps = omega (arith, l, long) in
    let other : Dep = record { key = []; block = 0 } in
    let here = version_there rows places deps i place are (sym is) in
    let dep = get_or deps i other in
    let found = row_of_version rows place dep (here ∙ slice_get-get_or deps i other within) in (
      found.0,
      found.1,
      within,
      λ d. found.2
          ∙ sym (get_or_from_slice_get deps i dep d (slice_get-get_or deps i other within)),
    )

-- one version more
pub one_more : (rows : List Row) (places : List ℕ) (deps : List Dep) (i place : ℕ) (list : List Dep)
    (made : Dep) → AreVersionsAt rows places deps → slice_get places i ≡ Some place
    → ((row : Row) → slice_get rows place ≡ Some row → made ≡ version_of row) → list ≡ take i deps
    → list ++ made ∷ [] ≡ take (i + 1) deps
one_more rows places deps i place list made are is named before =
    let at = version_row rows places deps i place are is in
    ap (λ (l : List Dep). l ++ made ∷ []) before
    ∙ ap (λ (d : Dep). take i deps ++ d ∷ []) (named at.0 at.1 ∙ at.3 made)
    ∙ sym (take_more deps i made at.2)
