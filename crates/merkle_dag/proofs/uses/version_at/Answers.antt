use Rattle.std.proofs.Common.{ap, arith}
use Rattle.lineage_rewind.specs.entry_store.declared.entry.Facts.{Facts}
use Rattle.lineage_rewind.proofs.lineage_index.StoreEntries.{row_facts}
use Rattle.lineage_rewind.proofs.lineage_index.BlockSteps.{as_many_entries}
use Rattle.merkle_dag.proofs.uses.version_at.Goals as goal

pub facts-facts-requires : goal.facts-facts-requires
facts-facts-requires c =
    let given = c.requires in
    omega (arith, given.2, as_many_entries given.0 c.args.store.now given.1)

pub returns : goal.returns
returns c rows row are at =
    let so = row_facts c.args.store.now rows c.args.place row c.facts-facts.result are at
    c.facts-facts.ensures in
    let key = ap (λ (facts : Facts). facts.key) so in
    let block = ap (λ (facts : Facts). facts.block) so in
    λ i. record { key = key i; block = block i }
