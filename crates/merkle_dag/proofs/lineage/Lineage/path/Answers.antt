use Rattle.std.proofs.Common.{length}
use Rattle.merkle_dag.specs.Kept.{rows_kept}
use Rattle.merkle_dag.proofs.lineage.Lineage.path.Goals as goal

pub returns-clause-path : goal.returns-clause-path
returns-clause-path g c = rw (← c.self.view_is)
    (c.path.ensures.path (rows_kept c.self.inside.kept.index)
    (length c.self.inside.kept.digests.items) c.self.invariant.index_is)
