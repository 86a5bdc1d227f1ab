use Rattle.std.proofs.Common.{length, sym}
use Rattle.lineage_rewind.proofs.lineage_index.NewestRows.{entry_known, entry_unknown}
use Rattle.merkle_dag.specs.Kept.{rows_kept}
use Rattle.merkle_dag.proofs.lineage.Lineage.newest.Goals as goal

pub returns-in-None : goal.returns-in-None
returns-in-None c = rw (← c.self.view_is) (
    let rows = rows_kept c.self.inside.kept.index in
    entry_unknown rows c.args.key.now
    (sym (c.in-None.ensures rows (length c.self.inside.kept.digests.items)
    c.self.invariant.index_is)))

pub returns-in-Some : goal.returns-in-Some
returns-in-Some c = rw (← c.self.view_is) (
    let rows = rows_kept c.self.inside.kept.index in
    entry_known rows c.args.key.now c.in-Some.index
    (sym (c.in-Some.ensures rows (length c.self.inside.kept.digests.items)
    c.self.invariant.index_is)))
