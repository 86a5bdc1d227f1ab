use Rattle.std.proofs.Common.{◌∙◌, ap, arith}
use Rattle.skip_list.specs.entry_store.Steps.{raised_count}
use Rattle.lineage_index.specs.Versions.{versions_of_key}
use Rattle.lineage_index.proofs.Looking.{newest_towered, found_latest, found_within, path_steps}
use Rattle.lineage_index.proofs.Looking.{none_found, no_steps}
use Rattle.lineage_index.proofs.lookups.latest_entry.Goals as goal

pub find-requires : goal.find-requires
find-requires g c =
    let given = c.requires in
    record { towered = (versions_of_key given.0 given.1, newest_towered given.0 given.1 c.args.newest c.in-Some.newest c.args.store.now given.2 c.in-Some.is) }

pub returns-in-None-clause-latest : goal.returns-in-None-clause-latest
returns-in-None-clause-latest g c rows key is = none_found rows key c.args.at c.args.newest c.args.store.now is c.in-None.is

pub returns-in-None-clause-count : goal.returns-in-None-clause-count
returns-in-None-clause-count g c rows key is = no_steps rows key c.args.at c.args.steps.now c.args.newest c.args.store.now is c.in-None.is (omega (arith, c.count-count.type_inv, c.count-count.ensures))

pub returns-in-Some-clause-latest : goal.returns-in-Some-clause-latest
returns-in-Some-clause-latest g c rows key is =
    found_within rows key c.args.at c.args.newest c.args.store.now c.find.result is c.find.ensures.towered
    (found_latest rows key c.args.at c.find.result (c.find.ensures.found (versions_of_key rows key) (newest_towered rows key c.args.newest c.in-Some.newest c.args.store.now is c.in-Some.is)))

pub returns-in-Some-clause-count : goal.returns-in-Some-clause-count
returns-in-Some-clause-count g c rows key is =
    c.find.ensures.count (versions_of_key rows key) (newest_towered rows key c.args.newest c.in-Some.newest c.args.store.now is c.in-Some.is)
    ∙ ap (raised_count c.args.steps.now) (path_steps rows key c.args.at c.args.newest c.args.store.now is)
