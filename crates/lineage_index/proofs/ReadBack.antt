-- Rows are read back from their entries, if their bodies can be spelled.
use Rattle.std.proofs.Common.{◌≡◌, ◌∙◌, List, [], ◌∷◌, ◌++◌, map, refl, ap}
use Rattle.std.specs.List.{All, AllByRecursion}
use Rattle.std.proofs.lemmas.List.Elements.{recursion_from_All}
use Rattle.lc_base.specs.declared.row.Dep.{Dep}
use Rattle.lc_base.specs.declared.row.Row.{Row}
use Rattle.entry_views.specs.prov_entry.declared.entry.BodyDep.{BodyDep}
use Rattle.entry_views.specs.prov_entry.Spelling.{IsBody}
use Rattle.plain_rows.specs.root_laws.Naming.{with_digest, named_before, body_of}
use Rattle.entry_views.specs.RowBodies.{dep_without_digest}
use Rattle.entry_views.proofs.Bodies.{body_back}
use Rattle.lineage_index.specs.Entries.{entry_for, entries_after, entries_of}
use Rattle.lineage_index.specs.ReadBack.{row_with, row_read, rows_read}

pub deps_back : (named : List BodyDep) (deps : List Dep) → map dep_without_digest (map (with_digest named) deps) ≡ deps
deps_back named [] = refl
deps_back named (dep ∷ deps) = ap (λ (rest : List Dep). dep ∷ rest) (deps_back named deps)

row_back : (all before : List Row) (row : Row) → IsBody (body_of all row) → row_read (entry_for all before row) ≡ row
row_back all before row is =
    ap (row_with (entry_for all before row)) (body_back (body_of all row) is)
    ∙ ap (λ (deps : List Dep). let r : Row = record { key = row.key; block = row.block; tx = row.tx; value = row.value; deps = deps } in r) (deps_back (named_before all row.block) row.deps)

rows_back_after : (all before rows : List Row) → AllByRecursion (λ (row : Row). IsBody (body_of all row)) rows → rows_read (entries_after all before rows) ≡ rows
unfolding entries_after
rows_back_after all before [] are = refl
rows_back_after all before (row ∷ rows) are =
    ap (λ (first : Row). first ∷ rows_read (entries_after all (before ++ row ∷ []) rows)) (row_back all before row are.0)
    ∙ ap (λ (others : List Row). row ∷ others) (rows_back_after all (before ++ row ∷ []) rows are.1)

pub rows_back : (all rows : List Row) → All (λ (row : Row). IsBody (body_of all row)) rows → rows_read (entries_of all rows) ≡ rows
rows_back all rows are = rows_back_after all [] rows (recursion_from_All (λ (row : Row). IsBody (body_of all row)) rows are)
