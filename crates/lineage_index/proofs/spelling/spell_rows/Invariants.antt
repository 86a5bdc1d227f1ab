use Rattle.std.proofs.Common.{◌≡◌, ◌++◌, ◌+◌, ℕ, List, map, take}
use Rattle.forward_links.specs.Lists.{Use}
use Rattle.lineage_index.specs.Growth.{deps_touched, used_by}
use Rattle.lineage_index.specs.Heads.{AreLists}
use Rattle.lineage_index.specs.Leaves.{leaf_indexes}
use Rattle.lineage_index.specs.NewEntries.{bytes_in}
use Rattle.lineage_index.proofs.spelling.spell_rows.Given as goal

abbrev pub invariant-loop-row : goal.invariant-loop-row
invariant-loop-row l = record {
  at : l.index ≡ l.first + l.row-index;
  spelled : l.bodies ≡ map (bytes_in l.tree) (take l.row-index l.new);
  lists : (keys : List (List ℕ)) (list : List ℕ → List Use)
      → AreLists l.tree l.initial.lists keys list
      → AreLists l.tree l.lists keys (used_by list l.first (take l.row-index l.new));
  touched : l.touched.items ≡ l.initial.touched.items ++
      leaf_indexes l.tree (deps_touched (take l.row-index l.new));
}
