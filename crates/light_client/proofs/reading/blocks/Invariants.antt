use Rattle.std.proofs.Common.{◌-◌, length}
use Rattle.light_client.proofs.Taking.{HasCome}
use Rattle.light_client.proofs.reading.blocks.Given as goal

abbrev pub invariant-loop-bytes : goal.invariant-loop-bytes
invariant-loop-bytes g l =
    HasCome (g.I.Source.left l.initial.source) (g.I.Source.left l.source)
    (g.I.Source.source_faults l.initial.source) (g.I.Source.source_faults l.source) l.size
    l.bytes.items

abbrev pub decreases-loop-bytes : goal.decreases-loop-bytes
decreases-loop-bytes g l = l.size - length l.bytes.items
