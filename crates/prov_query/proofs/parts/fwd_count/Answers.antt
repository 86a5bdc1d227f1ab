use Rattle.std.proofs.Common.{◌∙◌, Some, length, ap, sym}
use Rattle.std.specs.Option.{option_map}
use Rattle.prov_query.proofs.Finding.{uses_told}
use Rattle.prov_query.proofs.parts.fwd_count.Goals as goal

pub returns-in-Some-clause-count : goal.returns-in-Some-clause-count
returns-in-Some-clause-count g c =
    let found = c.in-Some.ensures.latest in
    ap Some (c.use_count.ensures.count found.0 found.2)
    ∙ sym (ap (option_map length)
    (uses_told c.args.lineage.now.rows c.args.key.now c.args.at found.0 found.1))
