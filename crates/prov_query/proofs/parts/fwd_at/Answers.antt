use Rattle.std.proofs.Common.{◌∙◌, ap, sym}
use Rattle.lc_base.specs.Parts.{item_at}
use Rattle.prov_query.proofs.Finding.{uses_told}
use Rattle.prov_query.proofs.parts.fwd_at.Goals as goal

pub returns-in-Some : goal.returns-in-Some
returns-in-Some g c =
    let found = c.in-Some.ensures.latest in
    c.use_at.ensures found.0 found.2
    ∙ sym (ap (item_at c.args.index)
    (uses_told c.args.lineage.now.rows c.args.key.now c.args.at found.0 found.1))
