use Rattle.std.proofs.Common.{◌≡◌, take}
use Rattle.lineage_index.specs.plain_rows.First.{numbers_below}
use Rattle.lineage_rewind.proofs.users.indexes_below.Given as goal

abbrev pub invariant-loop-index : goal.invariant-loop-index
invariant-loop-index l = l.below ≡ numbers_below l.end (take l.index-index l.indexes)
