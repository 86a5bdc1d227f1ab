-- Up to each version that is reached, the lookups are a part of all.
use Rattle.std.proofs.Common.{◌≡◌, ◌∙◌, ℕ, ◌-◌, ◌<◌, ◌^◌, List, [], ◌∷◌, ◌++◌, length}
use Rattle.std.proofs.Common.{append_assoc}
use Rattle.lc_base.specs.declared.row.Dep.{Dep}
use Rattle.lc_base.specs.declared.row.Row.{Row}
use Rattle.lc_base.specs.History.{IsLawful}
use Rattle.skip_links.specs.Paths.{path}
use Rattle.entry_store.specs.Steps.{raised_count}
use Rattle.root_laws.specs.Ancestors.{itself, all_inserted, deps_in, reached_from}
use Rattle.root_laws.specs.AncestorSteps.{steps_of}
use Rattle.row_walks.proofs.OneMore.{IsReaching, all_reached, step}
use Rattle.lineage_trace.specs.Counting.{RisesUpTo}
use Rattle.lineage_trace.proofs.Counts.{one_counted, part_counted}

module _ (rows : List Row) (deps : List Dep) (left : ℕ) (found wanted rest : List Dep)
    (version : Dep) (lawful : IsLawful rows) (some : 0 < left) (last : wanted ≡ version ∷ rest)
    (so_far : IsReaching rows deps left found wanted) where
  pub counted_so_far : (start count next : ℕ) → start < 2 ^ 64
      → count ≡ raised_count start (steps_of rows found)
      → next ≡ raised_count count (length (path rows version.key version.block))
      → RisesUpTo (steps_of rows (all_reached rows deps)) start next
  counted_so_far start count next fits is more =
      let others = reached_from (left - 1) rows (all_inserted itself (deps_in rows version) rest) in
      part_counted rows (found ++ version ∷ []) others (all_reached rows deps) start next fits
      (append_assoc found (version ∷ []) others
      ∙ step rows deps left found wanted rest version lawful some last so_far)
      (one_counted rows found version start count next is more)
