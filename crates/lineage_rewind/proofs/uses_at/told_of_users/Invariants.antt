use Rattle.std.proofs.Common.{◌≡◌, List, take}
use Rattle.lc_base.specs.declared.row.Dep.{Dep}
use Rattle.lc_base.specs.declared.row.Row.{Row}
use Rattle.lineage_index.specs.plain_rows.Users.{AreVersionsAt}
use Rattle.lineage_index.specs.Settling.{IsStoreOf}
use Rattle.lineage_rewind.specs.LeavesAt.{told_of, versions_up_to}
use Rattle.lineage_rewind.proofs.uses_at.told_of_users.Given as goal

abbrev pub invariant-loop-user : goal.invariant-loop-user
invariant-loop-user l =
    (rows : List Row) (versions : List Dep) → IsStoreOf rows l.store
    → AreVersionsAt rows l.users versions
    → l.told ≡ told_of (versions_up_to l.at (take l.user-index versions))
