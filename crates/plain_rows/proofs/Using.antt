-- The rows that are kept as derived from a row are those of the definition.
use Rattle.std.proofs.Common.{◌≡◌, ℕ, suc, List, [], ◌∷◌, ◌++◌, length, filter, map, slice_get}
use Rattle.std.proofs.Common.{Bool, true, false, cond, Option, Some, refl, sym, ap, ◌∙◌, arith}
use Rattle.std.specs.Option.{option_map}
use Rattle.std.proofs.lemmas.List.{append_assoc, length-append, map-append}
use Rattle.lc_base.specs.declared.row.Row.{Row}
use Rattle.lc_base.specs.declared.row.Dep.{Dep}
use Rattle.lc_base.specs.History.{depends_on, uses, version_of}
use Rattle.plain_rows.specs.Places.{marks_of, StandsAt}
use Rattle.plain_rows.specs.Users.{number_of, users, version_at, there, AreVersionsAt}
use Rattle.plain_rows.proofs.Marked.{get_here}

version_step : (passes : Bool) (row : Row) (n : ℕ) (ms : List ℕ) (found : List Row)
    (g : ℕ → Option Dep) → g n ≡ Some (version_of row) → map g ms ≡ map there (map version_of found)
    →
    map g (cond passes (n ∷ ms) ms) ≡ map there (map version_of (cond passes (row ∷ found) found))
version_step true row n ms found g is rest = λ i. is i ∷ rest i
version_step false row n ms found g is rest = rest

versions_by_number : (passes : Row → Bool) (n : ℕ) (before rows : List Row) → length before ≡ n →
    map (version_at (before ++ rows)) (marks_of number_of passes n rows) ≡ map there
    (map version_of (filter passes rows))
versions_by_number passes n before [] len = refl
versions_by_number passes n before (row ∷ rows) len =
    let all = before ++ row ∷ rows in
    let here : version_at all n ≡ Some (version_of row) = ap (option_map version_of)
    (ap (slice_get all) (sym len) ∙ get_here before row rows) in
    let longer : length (before ++ row ∷ []) ≡ suc n = length-append before (row ∷ [])
    ∙ omega (arith, len) in
    version_step (passes row) row n (marks_of number_of passes (suc n) rows) (filter passes rows)
    (version_at all) here
    (ap (λ (l : List Row). map (version_at l) (marks_of number_of passes (suc n) rows))
    (sym (append_assoc before (row ∷ []) rows))
    ∙ versions_by_number passes (suc n) (before ++ row ∷ []) rows longer)

-- the rows that were derived from a row are those of the definition
pub uses_at : (rows : List Row) (row : Row)
    → AreVersionsAt rows (users rows row) (uses rows row.key row.block)
uses_at rows row = versions_by_number (depends_on row.key row.block) 0 [] rows refl

-- one version more
pub versions_more : (rows : List Row) (indexes : List ℕ) (deps : List Dep) (index : ℕ) (dep : Dep)
    → AreVersionsAt rows indexes deps → StandsAt rows dep index →
    AreVersionsAt rows (indexes ++ index ∷ []) (deps ++ dep ∷ [])
versions_more rows indexes deps index dep before stands =
    let here : version_at rows index ≡ Some dep = ap (option_map version_of) stands.1
    ∙ (λ i. Some (record { key = stands.2 i; block = stands.3 i })) in
    map-append (version_at rows) indexes (index ∷ [])
    ∙ ap (λ (l : List (Option Dep)). l ++ version_at rows index ∷ []) before
    ∙ ap (λ (d : Option Dep). map there deps ++ d ∷ []) here
    ∙ sym (map-append there deps (dep ∷ []))
