use Rattle.std.proofs.Common.{◌≡◌, take}
use Rattle.entry_views.proofs.reading.owned_deps.Given as goal

abbrev pub invariant-loop-index : goal.invariant-loop-index
invariant-loop-index l = l.deps ≡ take l.index l.view
