use Rattle.std.proofs.Common.{◌≡◌, take}
use Rattle.lc_base.specs.Deps.{without_repeats}
use Rattle.lc_base.proofs.deps.DepList.without_repeats.Given as goal

abbrev pub invariant-loop-dep : goal.invariant-loop-dep
invariant-loop-dep l = l.list ≡ without_repeats (take l.dep-index l.deps)
