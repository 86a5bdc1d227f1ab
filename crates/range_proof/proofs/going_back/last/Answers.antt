use Rattle.range_proof.proofs.Links.{link_before}
use Rattle.range_proof.proofs.going_back.last.Goals as goal

pub returns-else-row_facts-from-clause-previous : goal.returns-else-row_facts-from-clause-previous
returns-else-row_facts-from-clause-previous g c row at =
    rw c.leads_to-previous.ensures
    (link_before c.args.lineage.now.rows c.in-Some.found.id.0 c.args.from c.in-Some.found.previous
    row c.row_count-count.ensures.ledger.lawful c.in-Some.ensures.previous at)
