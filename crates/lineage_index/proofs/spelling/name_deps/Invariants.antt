use Rattle.std.proofs.Common.{◌≡◌, ◌++◌, ℕ, List, map, take}
use Rattle.lc_base.specs.declared.row.Dep.{Dep}
use Rattle.forward_links.specs.Lists.{Use}
use Rattle.lineage_index.specs.Growth.{list_with_uses}
use Rattle.lineage_index.specs.Heads.{AreLists}
use Rattle.lineage_index.specs.Leaves.{leaf_indexes}
use Rattle.lineage_index.specs.NewEntries.{dep_in}
use Rattle.lineage_index.proofs.spelling.name_deps.Given as goal

abbrev pub invariant-loop-dep : goal.invariant-loop-dep
invariant-loop-dep l = record {
  named : l.list ≡ map (dep_in l.tree) (take l.dep-index l.deps);
  lists : (keys : List (List ℕ)) (list : List ℕ → List Use)
      → AreLists l.tree l.initial.lists keys list
      → AreLists l.tree l.lists keys (list_with_uses list
      (record { version = l.user.version; row = l.user.row }) (take l.dep-index l.deps));
  touched : l.touched.items ≡ l.initial.touched.items ++
      leaf_indexes l.tree (map (λ (dep : Dep). dep.key) (take l.dep-index l.deps));
}
