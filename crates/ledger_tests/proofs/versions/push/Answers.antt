use Rattle.std.proofs.Common.{◌≡◌, ℕ, Some, length, refl, sym, ap, subst}
use Rattle.entry_store.specs.declared.entry.EntryId.{EntryId}
use Rattle.ledger_tests.specs.Versions.{HasVersions}
use Rattle.ledger_tests.proofs.OneMore.{are_older, links_lead_back, with_version}
use Rattle.ledger_tests.proofs.versions.push.Goals as goal

pub links_for-requires : goal.links_for-requires
links_for-requires c =
    let has = c.requires.versions in
    (has.versions, rw c.id_of.ensures has.are, are_older c.args.store.now c.args.key c.args.newest c.args.block has c.requires.above)

pub push-requires-clause-back : goal.push-requires-clause-back
push-requires-clause-back c =
    let has = c.requires.versions in
    let older = are_older c.args.store.now c.args.key c.args.newest c.args.block has c.requires.above in
    let links = c.in_ok-hops.ensures.links has.versions (rw c.id_of.ensures has.are) older in
    links_lead_back c.args.store.now c.args.key c.args.newest c.args.block c.in_ok-hops.hops has c.requires.above links

pub returns-clause-ok : goal.returns-clause-ok
returns-clause-ok c =
    let has = c.requires.versions in
    let older = are_older c.args.store.now c.args.key c.args.newest c.args.block has c.requires.above in
    let links = c.in_ok-hops.ensures.links has.versions (rw c.id_of.ensures has.are) older in
    let id : record { 0 = length c.args.store.now } ≡ c.in_ok-id.id = ap (λ (n : ℕ). let i : EntryId = record { 0 = n } in i) (sym c.in_ok-id.ensures.id) in
    subst (λ (i : EntryId). HasVersions c.push.new.self c.args.key (Some (record { block = c.args.block; id = i }))) id
    (rw c.in_ok-id.ensures.ok (with_version c.args.store.now c.args.key c.args.newest c.args.block _ has c.requires.above refl links refl))
