use Rattle.std.proofs.Common.{◌∙◌, map, slice_get, ap}
use Rattle.skip_list.specs.entry_store.Entries.{named_link}
use Rattle.lineage_index.proofs.MadeAgain.{header_with, made_is, row_header}
use Rattle.lineage_index.proofs.headers.entry_header.Goals as goal

pub returns-clause-row : goal.returns-clause-row
returns-clause-row g c rows row lawful are at =
    let store = c.args.store.now in
    let named = c.in_ok-links.ensures ∙ ap (map (named_link store)) c.as_slice-hops.ensures in
    row_header store rows c.args.id.0 row (header_with c.facts-facts.result c.in_ok-links.links) lawful are at
    (made_is store (slice_get store c.args.id.0) c.facts-facts.result c.entry.result.now c.in_ok-links.links c.facts-facts.ensures c.entry.ensures.links named)
