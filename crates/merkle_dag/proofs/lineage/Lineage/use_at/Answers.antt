use Rattle.std.proofs.Common.{length}
use Rattle.lc_base.specs.History.{uses}
use Rattle.lineage_rewind.proofs.lineage_index.NewestRows.{row_at}
use Rattle.merkle_dag.specs.Kept.{rows_kept}
use Rattle.merkle_dag.proofs.lineage.Lineage.use_at.Goals as goal

pub nth_version-requires : goal.nth_version-requires
nth_version-requires c =
    let rows = rows_kept c.self.inside.kept.index in
    let at = row_at rows c.args.index (rw (← c.self.view_is) at c.requires) in (
      rows,
      uses rows at.0.key at.0.block,
      c.store.ensures rows
          (length c.self.inside.kept.digests.items) c.self.invariant.index_is,
      c.users_of-places.ensures at.0 at.1,
    )

pub returns : goal.returns
returns c = rw (← c.self.view_is) (λ row at.
    let rows = rows_kept c.self.inside.kept.index in
    c.nth_version.ensures rows (uses rows row.key row.block)
    (c.store.ensures rows (length c.self.inside.kept.digests.items) c.self.invariant.index_is)
    (c.users_of-places.ensures row at))
