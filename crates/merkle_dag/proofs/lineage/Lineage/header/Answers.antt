use Rattle.std.proofs.Common.{length}
use Rattle.merkle_dag.specs.Kept.{rows_kept}
use Rattle.merkle_dag.proofs.lineage.Lineage.header.Goals as goal

pub header-requires : goal.header-requires
header-requires g c = (
  (rows_kept c.self.inside.kept.index),
  length c.self.inside.kept.digests.items,
  c.self.invariant.index_is,
  rw (← c.self.view_is) at c.requires,
)

pub returns-clause-row : goal.returns-clause-row
returns-clause-row g c = rw (← c.self.view_is)
    (λ row at. c.header.ensures.row (rows_kept c.self.inside.kept.index)
    (length c.self.inside.kept.digests.items) row c.self.invariant.index_is at)
