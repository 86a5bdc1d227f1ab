use Rattle.std.proofs.Common.{length}
use Rattle.merkle_dag.specs.Kept.{rows_kept}
use Rattle.merkle_dag.proofs.lineage.Lineage.tree.Goals as goal

pub returns : goal.returns
returns c = rw (← c.self.view_is)
    (c.tree.ensures (rows_kept c.self.inside.kept.index) (length c.self.inside.kept.digests.items)
    c.self.invariant.index_is)
