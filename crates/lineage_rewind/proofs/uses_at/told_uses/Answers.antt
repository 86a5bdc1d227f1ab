use Rattle.std.proofs.Common.{◌∙◌, ap, arith}
use Rattle.lc_base.specs.History.{uses}
use Rattle.lineage_index.proofs.NewestRows.{row_at}
use Rattle.lineage_rewind.specs.LeavesAt.{told_of}
use Rattle.lineage_rewind.proofs.Cut.{store_of}
use Rattle.lineage_rewind.proofs.UsesAt.{few_uses, uses_cut}
use Rattle.lineage_rewind.proofs.uses_at.told_uses.Goals as goal

pub told_of_users-requires : goal.told_of_users-requires
told_of_users-requires c =
    let given = c.requires in
    let rows = given.0 in
    let row = row_at rows c.args.row given.3 in (
      rows,
      uses rows row.0.key row.0.block,
      store_of rows given.1 c.args.index.now c.store.result.now given.2
          (c.store.ensures rows given.1 given.2),
      c.uses.ensures.versions rows given.1 row.0 given.2 row.1,
      omega (arith, few_uses rows row.0.key row.0.block, given.2.store.lawful.few),
    )

pub returns : goal.returns
returns c rows n version is at =
    c.told_of_users.ensures rows (uses rows version.key version.block)
    (store_of rows n c.args.index.now c.store.result.now is (c.store.ensures rows n is))
    (c.uses.ensures.versions rows n version is at)
    ∙ ap told_of (uses_cut rows version.key version.block c.args.at)
