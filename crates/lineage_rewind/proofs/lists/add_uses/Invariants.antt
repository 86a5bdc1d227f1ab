use Rattle.std.proofs.Common.{◌≡◌, List, take, map}
use Rattle.std.specs.Prelude.{slice_set}
use Rattle.lc_base.specs.declared.row.Row.{Row}
use Rattle.lineage_index.specs.forward_links.Lists.{Use, kept_of}
use Rattle.lineage_rewind.specs.Front.{CanFill}
use Rattle.lineage_rewind.proofs.lists.add_uses.Given as goal

abbrev pub invariant-loop-user : goal.invariant-loop-user
invariant-loop-user l =
    (rows : List Row) (uses : List Use) (all : List (List Use))
    → CanFill rows uses all l.list l.initial.lists l.store l.users
    → l.lists ≡ map kept_of (slice_set all l.list (take l.user-index uses))
