use Rattle.std.proofs.Common.{ℕ, Option, sym, subst}
use Rattle.lc_base.specs.History.{latest}
use Rattle.plain_rows.specs.Places.{IsRowAt}
use Rattle.plain_rows.proofs.Marked.{latest_up_to}
use Rattle.plain_rows.proofs.index.RowsIndex.latest.Goals as goal

pub returns : goal.returns
returns c rows kept =
    subst (λ (index : Option ℕ). IsRowAt rows index (latest rows c.args.key.now c.args.at))
    (sym (c.row_up_to.ensures rows kept.places_are))
    (latest_up_to rows c.args.key.now c.args.at)
