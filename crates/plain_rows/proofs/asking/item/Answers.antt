use Rattle.std.proofs.Common.{◌∙◌, ap, sym}
use Rattle.lc_base.specs.Parts.{item_at}
use Rattle.plain_rows.specs.Kept.{rows_of}
use Rattle.plain_rows.proofs.asking.item.Goals as goal

pub nth_version-requires : goal.nth_version-requires
nth_version-requires c = (rows_of c.args.rows.now, c.in-Some.ensures.0, c.requires.kept_are, c.in-Some.ensures.2)

pub returns-in-Some : goal.returns-in-Some
returns-in-Some c =
    let list = c.in-Some.ensures in
    c.nth_version.ensures (rows_of c.args.rows.now) list.0 c.requires.kept_are list.2 ∙ ap (item_at c.args.place) (sym list.1)
