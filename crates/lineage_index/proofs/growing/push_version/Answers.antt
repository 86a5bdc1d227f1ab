use Rattle.lineage_index.specs.Versions.{versions_of_key}
use Rattle.lineage_index.proofs.NextEntries.{next_towered, next_before, next_room, next_back}
use Rattle.lineage_index.proofs.NextEntries.{next_entries}
use Rattle.lineage_index.proofs.growing.push_version.Goals as goal

pub links_for-requires : goal.links_for-requires
links_for-requires g c =
    let given = c.requires in (
      versions_of_key given.1 given.2.key,
      next_towered given.0 given.1 given.2 c.args.newest c.args.store.now c.args.version c.args.body.now given.3,
      next_before given.0 given.1 given.2 c.args.newest c.args.store.now c.args.version c.args.body.now given.3,
    )

pub push-requires-clause-room : goal.push-requires-clause-room
push-requires-clause-room g c =
    let given = c.requires in
    next_room given.0 given.1 given.2 c.args.newest c.args.store.now c.args.version c.args.body.now given.3

pub push-requires-clause-back : goal.push-requires-clause-back
push-requires-clause-back g c =
    let given = c.requires in
    let rows = given.1 in
    let row = given.2 in
    let next = given.3 in
    let links = c.in_ok-hops.ensures.links (versions_of_key rows row.key) (next_towered given.0 rows row c.args.newest c.args.store.now c.args.version c.args.body.now next)
    (next_before given.0 rows row c.args.newest c.args.store.now c.args.version c.args.body.now next) in
    next_back given.0 rows row c.args.newest c.args.store.now c.args.version c.args.body.now c.in_ok-hops.hops next links

pub returns-clause-ok : goal.returns-clause-ok
returns-clause-ok g c all rows row next =
    let links = c.in_ok-hops.ensures.links (versions_of_key rows row.key) (next_towered all rows row c.args.newest c.args.store.now c.args.version c.args.body.now next)
    (next_before all rows row c.args.newest c.args.store.now c.args.version c.args.body.now next) in
    rw c.in_ok-id.ensures.ok (next_entries all rows row c.args.newest c.args.store.now c.args.version c.args.body.now c.in_ok-hops.hops next links)
