use Rattle.std.proofs.Common.{◌∙◌}
use Rattle.prov_query.proofs.Spelled.{value_again}
use Rattle.range_proof.proofs.Told.{version_told}
use Rattle.range_proof.proofs.reading.version_at.Goals as goal

pub returns-clause-version : goal.returns-clause-version
returns-clause-version g c known row at =
    let facts = c.row_facts-facts.ensures row at in
    version_told row c.row_facts-facts.result.block c.row_facts-facts.result.tx
    c.in_ok-value.value facts.block_is facts.tx_is
    (c.in_ok-value.ensures
    ∙ value_again c.args.lineage.now.rows c.args.index row c.deref.result.now
    c.row_count-count.ensures.typed.history at
    (c.deref.ensures.value ∙ c.in_ok-body.ensures.body row at known))
