use Rattle.std.proofs.Common.{◌∙◌, ◌++◌, ◌<◌, ℕ, List, length, subst, sym, ap, arith}
use Rattle.std.specs.List.{concat}
use Rattle.std.proofs.lemmas.List.Elements.{All-from_recursion}
use Rattle.answer_proof.proofs.Gathered.{all_up_to_last}
use Rattle.proof_checks.specs.RangeMaking.{rows_back, made_range}
use Rattle.range_proof.specs.Finding.{AreRowsAt}
use Rattle.range_proof.specs.Proving.{IsButForBodies, fields_before_bodies}
use Rattle.range_proof.proofs.Found.{Below, are_within}
use Rattle.range_proof.proofs.Made.{all_written, others_written}
use Rattle.range_proof.proofs.gathering.bytes_of_rows.Goals as goal

pub put_before_bodies-requires-clause-back : goal.put_before_bodies-requires-clause-back
put_before_bodies-requires-clause-back g c =
    let rows = c.args.lineage.now.rows in
    let asked = c.args.asked.now in
    subst (λ (is : List ℕ). AreRowsAt rows is (rows_back rows asked.key asked.from asked.to))
    (sym c.as_slice-between.ensures) c.in_ok-found.ensures.between

pub put_bodies-requires-clause-within : goal.put_bodies-requires-clause-within
put_bodies-requires-clause-within g c =
    let rows = c.args.lineage.now.rows in
    let asked = c.args.asked.now in
    let back = rows_back rows asked.key asked.from asked.to in
    All-from_recursion (Below rows) c.as_slice-between.result.now
    (are_within rows c.as_slice-between.result.now back
    (subst (λ (is : List ℕ). AreRowsAt rows is back) (sym c.as_slice-between.ensures)
    c.in_ok-found.ensures.between))

pub returns-clause-bytes : goal.returns-clause-bytes
returns-clause-bytes g c known =
    let lineage = c.args.lineage.now in
    let asked = c.args.asked.now in
    let back = rows_back lineage.rows asked.key asked.from asked.to in
    let made = made_range lineage.rows lineage.digests asked.root_at asked.key asked.from asked.to
    in
    ◌∙◌ {b = c.put_bodies.new.out.items} c.from_vec.ensures
    (all_written lineage.rows lineage.digests asked.root_at asked.key asked.from asked.to
    (all_up_to_last lineage.rows asked.root_at (length lineage.digests) c.requires.last
    c.row_count-rows.ensures.ledger.within)
    c.as_slice-between.result.now c.put_before_bodies.new.out.items c.put_bodies.new.out.items
    (subst (λ (is : List ℕ). AreRowsAt lineage.rows is back) (sym c.as_slice-between.ensures)
    c.in_ok-found.ensures.between)
    (c.in_ok-put_before_bodies.ensures
    ∙ ap (λ (t : List ℕ). t ++ concat (fields_before_bodies made)) c.new-out.ensures.items)
    (c.in_ok-put_bodies.ensures.own known))

pub returns-clause-always : goal.returns-clause-always
returns-clause-always g c =
    let lineage = c.args.lineage.now in
    let asked = c.args.asked.now in
    let back = rows_back lineage.rows asked.key asked.from asked.to in
    let made = made_range lineage.rows lineage.digests asked.root_at asked.key asked.from asked.to
    in
    let within : asked.root_at < length lineage.digests = omega (arith, c.requires.last) in
    subst (IsButForBodies made) (sym c.from_vec.ensures)
    (others_written lineage.rows lineage.digests asked.root_at asked.key asked.from asked.to
    (all_up_to_last lineage.rows asked.root_at (length lineage.digests) c.requires.last
    c.row_count-rows.ensures.ledger.within)
    c.as_slice-between.result.now c.put_before_bodies.new.out.items c.put_bodies.new.out.items
    (c.made_ranges_are_proofs.ensures lineage.rows lineage.digests asked.root_at asked.key
    asked.from asked.to c.row_count-rows.ensures.typed within c.as_bytes-key.ensures.is_key
    c.requires.in_order c.requires.early)
    (subst (λ (is : List ℕ). AreRowsAt lineage.rows is back) (sym c.as_slice-between.ensures)
    c.in_ok-found.ensures.between)
    (c.in_ok-put_before_bodies.ensures
    ∙ ap (λ (t : List ℕ). t ++ concat (fields_before_bodies made)) c.new-out.ensures.items)
    c.in_ok-put_bodies.ensures.as_many)
