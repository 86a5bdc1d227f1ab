use Rattle.std.proofs.Common.{◌∙◌}
use Rattle.lc_base.specs.History.{latest}
use Rattle.lineage_rewind.proofs.KeysAt.{row_is_some}
use Rattle.lineage_rewind.proofs.keys_at.has_row.Goals as goal

pub returns : goal.returns
returns c rows n is =
    c.is_some.ensures
    ∙ row_is_some rows c.row_at.result (latest rows c.args.key.now c.args.at) (c.row_at.ensures rows n is)
