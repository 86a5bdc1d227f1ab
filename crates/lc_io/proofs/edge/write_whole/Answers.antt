use Rattle.std.proofs.Common.{arith}
use Rattle.lc_io.proofs.Writing.{written_more}
use Rattle.lc_io.proofs.edge.write_whole.Goals as goal

pub loop-taken-preserved : goal.loop-taken-preserved
loop-taken-preserved g c = (
  omega arith,
  written_more (g.W.Write.contents c.args.writer.now) (g.W.Write.contents c.loop-taken.writer) (g.W.Write.contents c.write_once-count.new.writer) c.args.bytes.now c.loop-taken.taken c.write_once-count.result c.loop-taken.invariant.1 c.write_once-count.ensures.writer,
)
