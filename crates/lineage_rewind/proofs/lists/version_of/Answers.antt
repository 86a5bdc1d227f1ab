use Rattle.std.proofs.Common.{◌∙◌, ap, arith}
use Rattle.std.proofs.lemmas.Option.{slice_get_within}
use Rattle.lc_base.specs.declared.row.Dep.{Dep}
use Rattle.lineage_index.specs.entry_store.declared.entry.Facts.{Facts}
use Rattle.lineage_index.proofs.BlockSteps.{as_many_entries}
use Rattle.lineage_rewind.proofs.Reading.{facts_read, row_of_version}
use Rattle.lineage_rewind.proofs.lists.version_of.Goals as goal

pub facts-facts-requires : goal.facts-facts-requires
facts-facts-requires c =
    let given = c.requires in
    let row = row_of_version given.0 c.args.index given.1 given.3 in
    omega (
      arith,
      slice_get_within given.0 c.args.index row.0 row.1,
      as_many_entries given.0
          c.args.store.now given.2.entries_are,
    )

pub returns : goal.returns
returns c rows dep store at =
    let row = row_of_version rows c.args.index dep at in
    ap (λ (f : Facts). let d : Dep = record { key = f.key; block = f.block } in d)
    (facts_read rows c.args.store.now c.args.index row.0 c.facts-facts.result store row.1
    c.facts-facts.ensures) ∙ row.2
