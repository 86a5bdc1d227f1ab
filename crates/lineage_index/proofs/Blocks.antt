-- What holds of the rows of a block, and of those before.
use Rattle.std.proofs.Common.{◌≡◌, ◌∙◌, ℕ, ◌<◌, ◌≤◌, false, ◌&&◌, ◌==◌, List, [], ◌∷◌, ◌++◌, refl, ap, arith, map}
use Rattle.std.specs.List.{list_any, AllByRecursion}
use Rattle.std.specs.Cmp.Lexicographic.{pointwise}
use Rattle.std.proofs.lemmas.List.Elements.{recursion_from_All}
use Rattle.std.proofs.lemmas.Bool.{and_right, ne_eqb}
use Rattle.lc_base.specs.declared.row.Row.{Row}
use Rattle.lc_base.specs.declared.row.Dep.{Dep}
use Rattle.lc_base.specs.History.{HasLawfulDeps, IsRecordedFrom, below, newest, uses, depends_on, version_of}
use Rattle.plain_rows.specs.root_laws.Naming.{closed_uses, uses_of}
use Rattle.plain_rows.proofs.root_laws.Lists.{all_weaker, all_back, keep_none}
use Rattle.plain_rows.proofs.root_laws.Growing.{below_now}
use Rattle.plain_rows.proofs.root_laws.Headers.{recorded_is_older}
use Rattle.lineage_index.specs.Growth.{Grows, IsOnNewest}

pub rows_before : (rows new : List Row) (n : ℕ) → Grows rows new n → AllByRecursion (λ (row : Row). row.block < n) rows
rows_before rows new n g = recursion_from_All (λ (row : Row). row.block < n) rows g.before

pub rows_now : (rows new : List Row) (n : ℕ) → Grows rows new n → AllByRecursion (λ (row : Row). row.block ≡ n) new
rows_now rows new n g = recursion_from_All (λ (row : Row). row.block ≡ n) new g.now

pub before_are : (rows new : List Row) (n : ℕ) → Grows rows new n → below (rows ++ new) n ≡ rows
before_are rows new n g = below_now rows new n (rows_before rows new n g) (rows_now rows new n g)

-- the list that a version of the block closes is that of its key after all uses of the block
pub closed_is_held : (rows new : List Row) (n : ℕ) (key : List ℕ) → Grows rows new n → closed_uses
    (rows ++ new) key n ≡ uses_of (rows ++ new) key (newest rows key)
closed_is_held rows new n key g = ap (λ (rs : List Row). uses_of (rows ++ new) key (newest rs key)) (before_are rows new n g)

lawful_deps : (rows new : List Row) (n : ℕ) → Grows rows new n → AllByRecursion (HasLawfulDeps (rows ++ new)) (rows ++ new)
lawful_deps rows new n g = recursion_from_All (HasLawfulDeps (rows ++ new)) (rows ++ new) g.lawful.lawful_deps

pub new_deps : (rows new : List Row) (n : ℕ) → Grows rows new n → AllByRecursion (HasLawfulDeps (rows ++ new)) new
new_deps rows new n g = all_back (HasLawfulDeps (rows ++ new)) rows new (lawful_deps rows new n g)

pub deps_on_newest : (rows new : List Row) (n : ℕ) (row : Row) → Grows rows new n → row.block ≡ n → HasLawfulDeps (rows ++ new) row → AllByRecursion (IsOnNewest rows) row.deps
deps_on_newest rows new n row g at deps =
    let is : below (rows ++ new) row.block ≡ rows = ap (below (rows ++ new)) at ∙ before_are rows new n g in
    all_weaker (IsRecordedFrom (rows ++ new) row) (IsOnNewest rows) (λ dep r. rw is at r) row.deps (recursion_from_All (IsRecordedFrom (rows ++ new) row) row.deps deps.newest)

-- nobody depends on a version of the block itself
older_only : (deps : List Dep) (key : List ℕ) (n b : ℕ) → b ≤ n → AllByRecursion (λ (dep : Dep). dep.block < b) deps → list_any (λ (dep : Dep). pointwise ◌==◌ dep.key key && dep.block == n) deps ≡ false
older_only [] key n b l h = refl
older_only (dep ∷ deps) key n b l h =
    let other : (dep.block == n) ≡ false = ne_eqb dep.block n (λ e. omega (arith, l, e, h.0)) in
    rw (other, and_right (pointwise ◌==◌ dep.key key) false refl) (older_only deps key n b l h.1)

not_on_block : (all : List Row) (row : Row) (key : List ℕ) (n : ℕ) → row.block ≤ n → HasLawfulDeps all row → depends_on key n row ≡ false
not_on_block all row key n l deps = older_only row.deps key n row.block l
    (all_weaker (IsRecordedFrom all row) (λ (dep : Dep). dep.block < row.block) (λ dep r. (recorded_is_older all row dep r).4) row.deps
    (recursion_from_All (IsRecordedFrom all row) row.deps deps.newest))

pub no_uses_yet : (rows new : List Row) (n : ℕ) (key : List ℕ) → Grows rows new n → uses (rows ++ new) key n ≡ []
no_uses_yet rows new n key g = ap (map version_of) (keep_none (depends_on key n) (rows ++ new) (each (rows ++ new) (low rows new (rows_before rows new n g) (rows_now rows new n g)) (lawful_deps rows new n g)))
  where
    low : (rs ns : List Row) → AllByRecursion (λ (row : Row). row.block < n) rs → AllByRecursion (λ (row : Row). row.block ≡ n) ns → AllByRecursion (λ (row : Row). row.block ≤ n) (rs ++ ns)
    low [] ns h k = all_weaker (λ (row : Row). row.block ≡ n) (λ (row : Row). row.block ≤ n) (λ row e. omega (arith, e)) ns k
    low (r ∷ rs) ns h k = (omega (arith, h.0), low rs ns h.1 k)

    each : (rs : List Row) → AllByRecursion (λ (row : Row). row.block ≤ n) rs → AllByRecursion (HasLawfulDeps (rows ++ new)) rs → AllByRecursion (λ (row : Row). depends_on key n row ≡ false) rs
    each [] h k = tt
    each (r ∷ rs) h k = (not_on_block (rows ++ new) r key n h.0 k.0, each rs h.1 k.1)
