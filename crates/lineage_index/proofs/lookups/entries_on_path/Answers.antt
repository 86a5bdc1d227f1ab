use Rattle.std.proofs.Common.{◌≡◌, true}
use Rattle.std.specs.List.{AllByRecursion}
use Rattle.std.proofs.lemmas.Result.{IfOk-weaker}
use Rattle.skip_list.specs.entry_store.declared.entry.EntryId.{EntryId}
use Rattle.skip_list.specs.LookedAt.{AreAmong}
use Rattle.lineage_index.specs.Versions.{versions_of_key}
use Rattle.lineage_index.proofs.Hops.{have_rows}
use Rattle.lineage_index.proofs.Looking.{newest_towered}
use Rattle.lineage_index.proofs.OnPath.{is_of_key, versions_of, all_on_path, no_path}
use Rattle.lineage_index.proofs.lookups.entries_on_path.Goals as goal

pub path_entries-requires : goal.path_entries-requires
path_entries-requires g c =
    let given = c.requires in
    record { towered = (versions_of_key given.0 given.1, newest_towered given.0 given.1 c.args.newest c.in-Some.newest c.args.store.now given.2 c.in-Some.is) }

pub returns-in-None-clause-path : goal.returns-in-None-clause-path
returns-in-None-clause-path g c rows key is = rw c.new.ensures (no_path rows key c.args.at c.args.newest c.args.store.now is c.in-None.is)

pub returns-in-Some-clause-path : goal.returns-in-Some-clause-path
returns-in-Some-clause-path g c rows key is =
    let versions = versions_of_key rows key in
    let towered = newest_towered rows key c.args.newest c.in-Some.newest c.args.store.now is c.in-Some.is in
    let among = IfOk-weaker c.path_entries.result (AreAmong versions) (AllByRecursion (λ (id : EntryId). is_of_key rows key id ≡ true))
    (λ ids are. are (is_of_key rows key) (versions_of rows key versions (have_rows rows key))) (c.path_entries.ensures.among versions towered) in
    all_on_path rows key c.args.at c.args.newest c.args.store.now c.path_entries.result is (c.path_entries.ensures.path versions towered) among
