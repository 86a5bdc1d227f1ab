use Rattle.std.proofs.Common.{◌<◌, length, subst, sym, arith}
use Rattle.skip_links.specs.Paths.{path}
use Rattle.prov_query.specs.lineage_index.OnPath.{AreEntriesIn}
use Rattle.answer_proof.proofs.Gathered.{all_up_to_last}
use Rattle.range_proof.proofs.Made.{audit_short, path_within, further_within, few_written}
use Rattle.range_proof.proofs.Made.{before_bodies}
use Rattle.range_proof.proofs.gathering.put_before_bodies.Goals as goal

pub put_leaf_proof-requires : goal.put_leaf_proof-requires
put_leaf_proof-requires g c =
    let lineage = c.args.lineage.now in
    let asked = c.args.asked.now in
    let within : asked.root_at < length lineage.digests = omega (arith, c.requires.last) in
    audit_short lineage.rows lineage.digests asked.root_at asked.key asked.from asked.to
    (all_up_to_last lineage.rows asked.root_at (length lineage.digests) c.requires.last
    c.row_count-rows.ensures.ledger.within)
    asked.block_digest c.in_ok-leaf_proof.leaf_proof
    (c.made_ranges_are_proofs.ensures lineage.rows lineage.digests asked.root_at asked.key
    asked.from asked.to c.row_count-rows.ensures.typed within c.as_bytes-key.ensures.is_key
    c.requires.in_order c.requires.early)
    c.requires.digest c.in_ok-leaf_proof.ensures

pub put_headers-requires-clause-path : goal.put_headers-requires-clause-path
put_headers-requires-clause-path g c =
    let lineage = c.args.lineage.now in
    let asked = c.args.asked.now in
    path_within lineage.rows lineage.digests asked.root_at asked.key asked.from asked.to
    (all_up_to_last lineage.rows asked.root_at (length lineage.digests) c.requires.last
    c.row_count-rows.ensures.ledger.within)
    c.as_slice.result.now c.row_count-rows.ensures.ledger.lawful
    (subst (AreEntriesIn lineage.rows asked.key (path lineage.rows asked.key asked.to))
    (sym c.as_slice.ensures) c.in_ok-path.ensures.path)

pub put_headers-requires-clause-further : goal.put_headers-requires-clause-further
put_headers-requires-clause-further g c =
    let lineage = c.args.lineage.now in
    let asked = c.args.asked.now in
    further_within lineage.rows lineage.digests asked.root_at asked.key asked.from asked.to
    (all_up_to_last lineage.rows asked.root_at (length lineage.digests) c.requires.last
    c.row_count-rows.ensures.ledger.within)
    c.args.between.now c.after_first-further.result.now c.requires.back
    c.after_first-further.ensures

pub put_headers-requires-clause-few : goal.put_headers-requires-clause-few
put_headers-requires-clause-few g c =
    let lineage = c.args.lineage.now in
    let asked = c.args.asked.now in
    let within : asked.root_at < length lineage.digests = omega (arith, c.requires.last) in
    few_written lineage.rows lineage.digests asked.root_at asked.key asked.from asked.to
    (all_up_to_last lineage.rows asked.root_at (length lineage.digests) c.requires.last
    c.row_count-rows.ensures.ledger.within)
    c.as_slice.result.now c.args.between.now c.after_first-further.result.now
    c.row_count-rows.ensures.ledger.lawful
    (c.made_ranges_are_proofs.ensures lineage.rows lineage.digests asked.root_at asked.key
    asked.from asked.to c.row_count-rows.ensures.typed within c.as_bytes-key.ensures.is_key
    c.requires.in_order c.requires.early)
    (subst (AreEntriesIn lineage.rows asked.key (path lineage.rows asked.key asked.to))
    (sym c.as_slice.ensures) c.in_ok-path.ensures.path)
    c.requires.back c.after_first-further.ensures

pub returns : goal.returns
returns g c =
    let lineage = c.args.lineage.now in
    let asked = c.args.asked.now in
    before_bodies lineage.rows lineage.digests asked.root_at asked.key asked.from asked.to
    (all_up_to_last lineage.rows asked.root_at (length lineage.digests) c.requires.last
    c.row_count-rows.ensures.ledger.within)
    asked.block_digest c.in_ok-leaf_proof.leaf_proof c.as_slice.result.now c.args.between.now
    c.after_first-further.result.now c.args.out.now.items c.put_front.new.out.items
    c.put_leaf_proof.new.out.items c.put_headers.new.out.items
    c.row_count-rows.ensures.ledger.lawful c.requires.digest c.in_ok-leaf_proof.ensures
    (subst (AreEntriesIn lineage.rows asked.key (path lineage.rows asked.key asked.to))
    (sym c.as_slice.ensures) c.in_ok-path.ensures.path)
    c.requires.back c.after_first-further.ensures c.in_ok-put_front.ensures
    c.in_ok-put_leaf_proof.ensures c.in_ok-put_headers.ensures
