use Rattle.lc_io.proofs.Filled.{fills_more}
use Rattle.lc_io.proofs.filling.fill.Goals as goal

pub loop-start-preserved : goal.loop-start-preserved
loop-start-preserved g c =
    fills_more _ (g.I.Source.left c.loop-start.source) (g.I.Source.left c.pull.new.self) _ (g.I.Source.source_faults c.loop-start.source) (g.I.Source.source_faults c.pull.new.self)
    c.loop-start.start c.in_ok-count.count c.loop-start.buffer c.pull.new.buffer _ c.loop-start.invariant c.in_ok-count.ensures.bytes.0 c.in_ok-count.ensures.bound c.in_ok-count.ensures.cause
