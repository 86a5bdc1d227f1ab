-- The keys of rows, and those of their entries.
use Rattle.std.proofs.Common.{◌≡◌, ◌==◌, ◌||◌, ℕ, List, [], ◌∷◌, ◌++◌, map, refl, ap, ◌∙◌}
use Rattle.std.specs.List.{list_any}
use Rattle.std.specs.Cmp.Lexicographic.{pointwise}
use Rattle.std.proofs.lemmas.List.Folds.{list_any-append}
use Rattle.lc_base.specs.declared.row.Row.{Row}
use Rattle.world_state.specs.declared.held.Held.{Held}
use Rattle.world_state.specs.Rows.{entry_of, is_staged}

staged_rows : (rows : List Row) (key : List ℕ) → is_staged (map entry_of rows) key ≡ list_any (λ (row : Row). pointwise ◌==◌ row.key key) rows
staged_rows [] key = refl
staged_rows (row ∷ rows) key = ap (λ b. pointwise ◌==◌ row.key key || b) (staged_rows rows key)

-- what is staged once the entries of rows are
pub staged_more : (staged : List (List ℕ × Held)) (rows : List Row) (key : List ℕ) →
    is_staged (staged ++ map entry_of rows) key ≡ (is_staged staged key || list_any (λ (row : Row). pointwise ◌==◌ row.key key) rows)
staged_more staged rows key =
    list_any-append (λ (entry : List ℕ × Held). pointwise ◌==◌ entry.0 key) staged (map entry_of rows)
    ∙ ap (λ b. is_staged staged key || b) (staged_rows rows key)
