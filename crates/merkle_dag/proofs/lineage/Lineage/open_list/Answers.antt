use Rattle.std.proofs.Common.{length}
use Rattle.merkle_dag.specs.Kept.{rows_kept}
use Rattle.merkle_dag.proofs.lineage.Lineage.open_list.Goals as goal

pub open_list-requires : goal.open_list-requires
open_list-requires c = (
  rows_kept c.self.inside.kept.index,
  length
      c.self.inside.kept.digests.items,
  c.self.invariant.index_is,
)

pub returns : goal.returns
returns c = rw (← c.self.view_is)
    (c.open_list.ensures (rows_kept c.self.inside.kept.index)
    (length c.self.inside.kept.digests.items) c.self.invariant.index_is)
