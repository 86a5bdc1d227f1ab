use Rattle.std.proofs.Common.{ap, arith}
use Rattle.skip_list.specs.entry_store.declared.entry.Facts.{Facts}
use Rattle.lineage_index.proofs.StoreEntries.{row_facts}
use Rattle.lineage_index.proofs.BlockSteps.{as_many_entries}
use Rattle.lineage_index.proofs.NewestRows.{row_at}
use Rattle.lineage_index.proofs.Listed.{versions_of_row}
use Rattle.lineage_index.proofs.index.LineageIndex.uses.Goals as goal

pub facts-facts-requires : goal.facts-facts-requires
facts-facts-requires c =
    let given = c.requires in
    omega (arith, given.3, as_many_entries given.0 c.args.self.now.store given.2.store.entries_are)

pub list_of-requires : goal.list_of-requires
list_of-requires c =
    let given = c.requires in
    let row = row_at given.0 c.args.index given.3 in (
      given.0,
      given.1,
      row.0,
      given.2,
      row.1,
      ap (λ (facts : Facts). facts.key) (row_facts c.args.self.now.store given.0 c.args.index row.0
          c.facts-facts.result
          given.2.store.entries_are row.1 c.facts-facts.ensures),
    )

pub returns-clause-indexes : goal.returns-clause-indexes
returns-clause-indexes c rows n row is at =
    c.list_of.ensures rows n row is at (ap (λ (facts : Facts). facts.key)
    (row_facts c.args.self.now.store rows c.args.index row
    c.facts-facts.result is.store.entries_are at c.facts-facts.ensures))

pub returns-clause-versions : goal.returns-clause-versions
returns-clause-versions c rows n row is at =
    versions_of_row rows row c.list_of.result.now
    (c.list_of.ensures rows n row is at (ap (λ (facts : Facts). facts.key)
    (row_facts c.args.self.now.store rows c.args.index row
    c.facts-facts.result is.store.entries_are at c.facts-facts.ensures)))
