-- Lists of indexes, and the versions at them: all, one of them, and one more.
use Rattle.std.proofs.Common.{◌≡◌, ◌∙◌, ℕ, zero, suc, ◌<◌, List, [], ◌∷◌, ◌++◌, length, map, slice_get, drop, Option, Some, None, refl, sym, ap, arith}
use Rattle.std.specs.List.{cons_option, filter_map}
use Rattle.std.specs.Option.{option_map}
use Rattle.std.proofs.lemmas.List.{length-map, map-append}
use Rattle.std.proofs.lemmas.Option.{none-some, same_Some, slice_get-map}
use Rattle.lc_base.specs.declared.row.Row.{Row}
use Rattle.lc_base.specs.declared.row.Dep.{Dep}
use Rattle.plain_rows.specs.Users.{version_at, there, AreVersionsAt}

pub as_long : (rows : List Row) (indexes : List ℕ) (deps : List Dep) → AreVersionsAt rows indexes deps → length indexes ≡ length deps
as_long rows indexes deps at = sym (length-map indexes (version_at rows)) ∙ ap length at ∙ length-map deps there

first_version : (rows : List Row) (i : ℕ) (is : List ℕ) (d : Dep) (ds : List Dep) → AreVersionsAt rows (i ∷ is) (d ∷ ds) → version_at rows i ≡ Some d
first_version rows i is d ds at = same_Some (version_at rows i) (Some d) (ap (λ (l : List (Option Dep)). slice_get l 0) at)

other_versions : (rows : List Row) (i : ℕ) (is : List ℕ) (d : Dep) (ds : List Dep) → AreVersionsAt rows (i ∷ is) (d ∷ ds) → AreVersionsAt rows is ds
other_versions rows i is d ds at = ap (λ (l : List (Option Dep)). drop 1 l) at

-- what is found at the indexes
pub found_all : (rows : List Row) (indexes : List ℕ) (deps : List Dep) → AreVersionsAt rows indexes deps → filter_map (version_at rows) indexes ≡ deps
found_all rows [] [] at = refl
found_all rows [] (d ∷ ds) at = absurd (cc at)
found_all rows (i ∷ is) [] at = absurd (cc at)
found_all rows (i ∷ is) (d ∷ ds) at =
    ap (λ (o : Option Dep). cons_option o (filter_map (version_at rows) is)) (first_version rows i is d ds at)
    ∙ ap (λ (l : List Dep). d ∷ l) (found_all rows is ds (other_versions rows i is d ds at))

pub same_versions : (rows : List Row) (indexes : List ℕ) (deps others : List Dep) → AreVersionsAt rows indexes deps → AreVersionsAt rows indexes others → deps ≡ others
same_versions rows indexes deps others at also = sym (found_all rows indexes deps at) ∙ found_all rows indexes others also

-- ---- more rows

version_stays : (rows more : List Row) (i : ℕ) (d : Dep) → version_at rows i ≡ Some d
    → version_at (rows ++ more) i ≡ Some d
version_stays [] more i d at = absurd (none-some d at)
version_stays (r ∷ rows) more zero d at = at
version_stays (r ∷ rows) more (suc i) d at = version_stays rows more i d at

pub versions_stay : (rows more : List Row) (indexes : List ℕ) (deps : List Dep)
    → AreVersionsAt rows indexes deps → AreVersionsAt (rows ++ more) indexes deps
versions_stay rows more [] deps at = at
versions_stay rows more (i ∷ is) [] at = absurd (cc at)
versions_stay rows more (i ∷ is) (d ∷ ds) at =
    let here = version_stays rows more i d (first_version rows i is d ds at) in
    let rest = versions_stay rows more is ds (other_versions rows i is d ds at) in
    λ k. here k ∷ rest k

-- ---- one of the versions

pub within : (rows : List Row) (i : ℕ) (d : Dep) → version_at rows i ≡ Some d → i < length rows
within [] i d at = absurd (none-some d at)
within (r ∷ rows) zero d at = omega arith
within (r ∷ rows) (suc i) d at = omega (arith, within rows i d at)

same_place : (rows : List Row) (indexes : List ℕ) (deps : List Dep) (place : ℕ) → AreVersionsAt rows indexes deps →
    option_map (version_at rows) (slice_get indexes place) ≡ option_map there (slice_get deps place)
same_place rows indexes deps place at =
    sym (slice_get-map (version_at rows) indexes place) ∙ ap (λ (l : List (Option Dep)). slice_get l place) at ∙ slice_get-map there deps place

dep_there : (o : Option Dep) (version : Option Dep) → Some version ≡ option_map there o → version ≡ o
dep_there None version e = absurd (none-some version (sym e))
dep_there (Some d) version e = same_Some version (Some d) e

-- the version at a place in the list
pub version_there : (rows : List Row) (indexes : List ℕ) (deps : List Dep) (place i : ℕ) → AreVersionsAt rows indexes deps → Some i ≡ slice_get indexes place → version_at rows i ≡ slice_get deps place
version_there rows indexes deps place i at is =
    dep_there (slice_get deps place) (version_at rows i) (ap (option_map (version_at rows)) is ∙ same_place rows indexes deps place at)

none_there : (o : Option Dep) → None ≡ option_map there o → None ≡ o
none_there None e = refl
none_there (Some d) e = absurd (none-some (Some d) e)

pub none_at : (rows : List Row) (indexes : List ℕ) (deps : List Dep) (place : ℕ) → AreVersionsAt rows indexes deps → None ≡ slice_get indexes place → None ≡ slice_get deps place
none_at rows indexes deps place at is =
    none_there (slice_get deps place) (ap (option_map (version_at rows)) is ∙ same_place rows indexes deps place at)

-- one version more
pub version_more : (rows : List Row) (indexes : List ℕ) (deps : List Dep) (i : ℕ) (d : Dep) → AreVersionsAt rows indexes deps → version_at rows i ≡ Some d → AreVersionsAt rows (indexes ++ i ∷ []) (deps ++ d ∷ [])
version_more rows indexes deps i d before here =
    map-append (version_at rows) indexes (i ∷ [])
    ∙ ap (λ (l : List (Option Dep)). l ++ version_at rows i ∷ []) before
    ∙ ap (λ (o : Option Dep). map there deps ++ o ∷ []) here
    ∙ sym (map-append there deps (d ∷ []))
