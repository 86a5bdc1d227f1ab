-- Rows of other keys don't change the versions of a key.
use Rattle.std.proofs.Common.{◌≡◌, ◌≢◌, ◌∙◌, ◌==◌, ℕ, List, [], ◌∷◌, ◌++◌, reverse, refl, ap, inl, inr}
use Rattle.std.specs.List.{All, AllByRecursion}
use Rattle.std.specs.Cmp.Lexicographic.{pointwise}
use Rattle.std.proofs.lemmas.Bool.{cases_Bool}
use Rattle.std.proofs.lemmas.List.{reverse-append}
use Rattle.std.proofs.lemmas.List.Elements.{recursion_from_All}
use Rattle.std.proofs.lemmas.Slice.Eq.{bytes_eq-Decides}
use Rattle.lc_base.specs.declared.row.Row.{Row}
use Rattle.plain_rows.proofs.root_laws.Lists.{all_reverse}
use Rattle.lineage_index.specs.Versions.{versions_in_reverse, versions_of_key}

other_versions : (rows more : List Row) (key : List ℕ) → AllByRecursion (λ (row : Row). row.key ≢ key) more → versions_in_reverse (more ++ rows) key ≡ versions_in_reverse rows key
other_versions rows [] key others = refl
other_versions rows (row ∷ more) key others = elim (cases_Bool (pointwise ◌==◌ row.key key)) [
  | inl e ↦ absurd (others.0 ((bytes_eq-Decides row.key key).0 e))
  | inr e ↦ rw e (other_versions rows more key others.1)
]

pub versions_stay : (rows more : List Row) (key : List ℕ) → All (λ (row : Row). row.key ≢ key) more → versions_of_key (rows ++ more) key ≡ versions_of_key rows key
unfolding versions_of_key
versions_stay rows more key others =
    ap (λ (all : List Row). versions_in_reverse all key) (reverse-append rows more)
    ∙ other_versions (reverse rows) (reverse more) key (all_reverse (λ (row : Row). row.key ≢ key) more (recursion_from_All (λ (row : Row). row.key ≢ key) more others))
