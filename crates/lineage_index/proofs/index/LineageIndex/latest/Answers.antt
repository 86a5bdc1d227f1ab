use Rattle.std.proofs.Common.{List, IfSome, subst}
use Rattle.skip_list.specs.declared.lookup.Found.{Found}
use Rattle.skip_list.specs.entry_store.Entries.{Entry}
use Rattle.skip_list.specs.Lookups.{IsPrevious}
use Rattle.lc_base.specs.History.{latest}
use Rattle.lineage_index.proofs.NewestRows.{found_at}
use Rattle.lineage_index.proofs.index.LineageIndex.latest.Goals as goal

pub latest_entry-requires : goal.latest_entry-requires
latest_entry-requires g c =
    let given = c.requires in
    (given.0, c.args.key.now, c.newest_entry.ensures given.0 given.1 given.2)

pub returns-clause-latest : goal.returns-clause-latest
returns-clause-latest g c rows n is =
    found_at rows (latest rows c.args.key.now c.args.at) c.latest_entry.result
    (c.latest_entry.ensures.latest rows c.args.key.now (c.newest_entry.ensures rows n is))

pub returns-clause-previous : goal.returns-clause-previous
returns-clause-previous g c rows n is =
    subst (λ (entries : List Entry). IfSome c.latest_entry.result
    (λ (found : Found). IsPrevious entries found.id found.previous))
    is.store.entries_are c.latest_entry.ensures.previous

pub returns-clause-count : goal.returns-clause-count
returns-clause-count g c rows n is =
    c.latest_entry.ensures.count rows c.args.key.now (c.newest_entry.ensures rows n is)
