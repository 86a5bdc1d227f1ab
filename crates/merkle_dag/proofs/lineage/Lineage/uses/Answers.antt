use Rattle.std.proofs.Common.{length}
use Rattle.lc_base.specs.History.{uses}
use Rattle.lineage_rewind.proofs.lineage_index.NewestRows.{row_at}
use Rattle.merkle_dag.specs.Kept.{rows_kept}
use Rattle.merkle_dag.proofs.lineage.Lineage.uses.Goals as goal

pub versions_at-requires : goal.versions_at-requires
versions_at-requires c =
    let rows = rows_kept c.self.inside.kept.index in
    let at = row_at rows c.args.index (rw (← c.self.view_is) at c.requires) in (
      rows,
      uses rows at.0.key at.0.block,
      c.store.ensures rows
          (length c.self.inside.kept.digests.items) c.self.invariant.index_is,
      c.users_of.ensures at.0
          at.1,
    )

pub returns : goal.returns
returns c = rw (← c.self.view_is) (λ row at.
    let rows = rows_kept c.self.inside.kept.index in
    c.versions_at.ensures rows (uses rows row.key row.block)
    (c.store.ensures rows (length c.self.inside.kept.digests.items) c.self.invariant.index_is)
    (c.users_of.ensures row at))
