use Rattle.std.proofs.Common.{◌≡◌, map, take}
use Rattle.entry_views.specs.RowBodies.{dep_without_digest}
use Rattle.entry_views.proofs.reading.without_digests.Given as goal

abbrev pub invariant-loop-index : goal.invariant-loop-index
invariant-loop-index l = l.deps ≡ map dep_without_digest (take l.index l.view)
