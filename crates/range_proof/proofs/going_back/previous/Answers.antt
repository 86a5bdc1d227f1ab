use Rattle.range_proof.proofs.Links.{entry_there, version_before, leads_back}
use Rattle.range_proof.proofs.going_back.previous.Goals as goal

pub entry-links-requires : goal.entry-links-requires
entry-links-requires g c =
    entry_there c.args.lineage.now.rows c.store.result.now c.args.index c.store.ensures
    c.requires.within

pub returns-clause-previous : goal.returns-clause-previous
returns-clause-previous g c row at =
    rw (c.lowest.ensures, c.as_slice.ensures)
    (version_before c.args.lineage.now.rows c.store.result.now c.args.index c.args.from
    c.entry-links.result.now row c.row_count-count.ensures.ledger.lawful c.store.ensures
    c.entry-links.ensures.links at)

pub returns-clause-back : goal.returns-clause-back
returns-clause-back g c =
    rw (c.lowest.ensures, c.as_slice.ensures)
    (leads_back c.entry-links.result.now.hops c.args.from c.args.index c.entry-links.ensures.back)
