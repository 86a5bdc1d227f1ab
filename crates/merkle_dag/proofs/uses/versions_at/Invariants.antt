use Rattle.std.proofs.Common.{◌≡◌, List, take}
use Rattle.lc_base.specs.declared.row.Row.{Row}
use Rattle.lc_base.specs.declared.row.Dep.{Dep}
use Rattle.lineage_rewind.specs.plain_rows.Users.{AreVersionsAt}
use Rattle.lineage_rewind.specs.lineage_index.Entries.{entries_of}
use Rattle.merkle_dag.proofs.uses.versions_at.Given as goal

abbrev pub invariant-loop-place : goal.invariant-loop-place
invariant-loop-place l = (rows : List Row) (deps : List Dep) → l.store ≡ entries_of rows rows
    → AreVersionsAt rows l.places deps → l.list ≡ take l.place-index deps
