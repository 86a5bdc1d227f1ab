use Rattle.std.proofs.Common.{◌-◌, length}
use Rattle.lc_io.proofs.Filled.{IsFilled}
use Rattle.lc_io.proofs.filling.fill.Given as goal

abbrev pub invariant-loop-start : goal.invariant-loop-start
invariant-loop-start g l =
    IsFilled (g.I.Source.left l.initial.source) (g.I.Source.left l.source) (g.I.Source.source_faults l.initial.source) (g.I.Source.source_faults l.source) l.start l.buffer

abbrev pub decreases-loop-start : goal.decreases-loop-start
decreases-loop-start g l = length l.initial.buffer - l.start
