use Rattle.std.proofs.Common.{◌∙◌, length}
use Rattle.lineage_rewind.proofs.lineage_index.BlockSteps.{as_many_entries}
use Rattle.merkle_dag.specs.Kept.{rows_kept}
use Rattle.merkle_dag.proofs.lineage.Lineage.row_count.Goals as goal

pub returns-clause-count : goal.returns-clause-count
returns-clause-count c = rw (← c.self.view_is) (
    let rows = rows_kept c.self.inside.kept.index in
    c.count.ensures.count ∙ as_many_entries rows c.store.result.now
    (c.store.ensures rows (length c.self.inside.kept.digests.items) c.self.invariant.index_is))
