use Rattle.std.proofs.Common.{length}
use Rattle.merkle_dag.specs.Kept.{rows_kept}
use Rattle.merkle_dag.proofs.lineage.Lineage.closed_list.Goals as goal

pub closed_list-requires : goal.closed_list-requires
closed_list-requires c = (
  (rows_kept c.self.inside.kept.index),
  length c.self.inside.kept.digests.items,
  c.self.invariant.index_is,
  rw (← c.self.view_is) at c.requires,
)

pub returns : goal.returns
returns c = rw (← c.self.view_is)
    (λ row at. c.closed_list.ensures (rows_kept c.self.inside.kept.index)
    (length c.self.inside.kept.digests.items) row c.self.invariant.index_is at)
