use Rattle.std.proofs.Common.{length, ap, arith}
use Rattle.lineage_rewind.specs.entry_store.declared.entry.Facts.{Facts}
use Rattle.lineage_rewind.proofs.lineage_index.StoreEntries.{row_facts}
use Rattle.lineage_rewind.proofs.lineage_index.BlockSteps.{as_many_entries}
use Rattle.merkle_dag.specs.Kept.{rows_kept}
use Rattle.merkle_dag.proofs.lineage.Lineage.row_facts.Goals as goal

pub facts-requires : goal.facts-requires
facts-requires c =
    let rows = rows_kept c.self.inside.kept.index in
    let entries = c.store.ensures rows (length c.self.inside.kept.digests.items)
    c.self.invariant.index_is in
    omega (
      arith,
      as_many_entries rows c.store.result.now entries,
      rw (← c.self.view_is) at
          c.requires,
    )

pub returns : goal.returns
returns c = rw (← c.self.view_is) (λ row at.
    let rows = rows_kept c.self.inside.kept.index in
    let entries = c.store.ensures rows (length c.self.inside.kept.digests.items)
    c.self.invariant.index_is in
    let so = row_facts c.store.result.now rows c.args.index row c.facts.result entries at
    c.facts.ensures in
    record {
      key_is = ap (λ (facts : Facts). facts.key) so;
      block_is = ap (λ (facts : Facts). facts.block) so;
      tx_is = ap (λ (facts : Facts). facts.tx) so;
    })
