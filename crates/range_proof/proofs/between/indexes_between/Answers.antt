use Rattle.std.proofs.Common.{◌≡◌, ◌∙◌, ℕ, ◌+◌, List, [], ◌∷◌, ◌++◌, length, ap}
use Rattle.std.proofs.Common.{Option, subst, sym, arith}
use Rattle.std.specs.Option.{option_map}
use Rattle.std.proofs.lemmas.List.{length-append}
use Rattle.skip_links.specs.Paths.{path}
use Rattle.root_laws.specs.Ranges.{rows_between}
use Rattle.range_proof.specs.declared.going_back.LastVersion.{LastVersion}
use Rattle.range_proof.proofs.Counts.{none_counted, one_counted, part_counted}
use Rattle.range_proof.proofs.Walking.{IsWalked, begun, walked_on, all_walked, next_within}
use Rattle.range_proof.proofs.Walking.{as_many, all_found}
use Rattle.range_proof.proofs.between.indexes_between.Goals as goal

-- ---- no version

pub returns-in_default-clause-between : goal.returns-in_default-clause-between
returns-in_default-clause-between g c =
    let rows = c.args.lineage.now.rows in
    let key = c.args.key.now in
    let start = begun rows c.row_count-rows.ensures.ledger.lawful key c.args.from c.args.to
    (option_map (λ (l : LastVersion). l.index) c.last.result) c.last.ensures.last in
    all_walked rows key c.args.from c.args.to c.new-found.result
    (option_map (λ (l : LastVersion). l.index) c.last.result)
    (subst (λ (found : List ℕ). IsWalked rows key c.args.from c.args.to found
    (option_map (λ (l : LastVersion). l.index) c.last.result))
    (sym c.new-found.ensures) start) (ap (option_map (λ (l : LastVersion). l.index)) c.in_default.is)

pub returns-in_default-clause-counted : goal.returns-in_default-clause-counted
returns-in_default-clause-counted g c =
    let rows = c.args.lineage.now.rows in
    let key = c.args.key.now in
    let start = begun rows c.row_count-rows.ensures.ledger.lawful key c.args.from c.args.to
    (option_map (λ (l : LastVersion). l.index) c.last.result) c.last.ensures.last in
    none_counted (rows_between rows key c.args.from c.args.to) c.args.steps.now
    (length (path rows key c.args.to)) c.last.new.steps
    (all_found rows key c.args.from c.args.to [] (option_map (λ (l : LastVersion). l.index) c.last.result)
    start (ap (option_map (λ (l : LastVersion). l.index)) c.in_default.is))
    c.last.ensures.count

-- ---- the last one

pub loop-next-init : goal.loop-next-init
loop-next-init g c =
    let rows = c.args.lineage.now.rows in
    let key = c.args.key.now in
    let lawful = c.row_count-rows.ensures.ledger.lawful in
    let start = begun rows lawful key c.args.from c.args.to
    (option_map (λ (l : LastVersion). l.index) c.last.result) c.last.ensures.last in
    let one : c.push.new.self ≡ [] ++ c.in-Some.last.index ∷ [] =
    c.in_ok-push.ensures.ok ∙ ap (λ (found : List ℕ). found ++ c.in-Some.last.index ∷ [])
    c.new-found.ensures in
    let long : length c.push.new.self ≡ 1 = ap length one in
    record {
      walked = walked_on rows lawful key c.args.from c.args.to [] c.push.new.self
          c.in-Some.last.index c.in-Some.last.previous one
          (subst (λ (o : Option LastVersion). IsWalked rows key c.args.from c.args.to []
          (option_map (λ (l : LastVersion). l.index) o)) c.in-Some.is start)
          (rw c.in-Some.is at c.last.ensures.previous);
      some = omega (arith, long);
      counted = omega (arith, long, c.last.ensures.count);
      few = omega (arith, long, c.last.ensures.few);
    }

-- ---- one version more

pub previous-next-requires : goal.previous-next-requires
previous-next-requires g c =
    let rows = c.args.lineage.now.rows in
    let key = c.args.key.now in
    let found = c.loop-next.found in
    record {
      within = next_within rows key c.args.from c.args.to found c.in-Some-next.index
          (subst (IsWalked rows key c.args.from c.args.to found) c.in-Some-next.is
          c.loop-next.invariant.walked);
    }

pub loop-next-preserved : goal.loop-next-preserved
loop-next-preserved g c =
    let rows = c.args.lineage.now.rows in
    let key = c.args.key.now in
    let found = c.loop-next.found in
    let longer = c.push-in-Some-next.new.self in
    let so_far = c.loop-next.invariant in
    let index = c.in-Some-next.index in
    let more : longer ≡ found ++ index ∷ [] = c.in_ok-push-2.ensures.ok in
    let long : length longer ≡ length found + 1 =
    ap length more ∙ length-append found (index ∷ []) in
    let step = c.previous-next.ensures.step in
    record {
      walked = walked_on rows c.row_count-rows.ensures.ledger.lawful key c.args.from c.args.to
          found longer index c.previous-next.result more
          (subst (IsWalked rows key c.args.from c.args.to found) c.in-Some-next.is so_far.walked)
          c.previous-next.ensures.previous;
      some = omega (arith, long);
      counted = one_counted c.args.steps.now (length (path rows key c.args.to)) (length found)
          (length longer) c.loop-next.steps c.previous-next.new.steps so_far.some
          long so_far.counted step;
      few = omega (arith, long, so_far.some, so_far.few, step);
    }

pub returns-in_err-push-2-clause-rises : goal.returns-in_err-push-2-clause-rises
returns-in_err-push-2-clause-rises g c =
    let rows = c.args.lineage.now.rows in
    let key = c.args.key.now in
    let so_far = c.loop-next.invariant in
    let both = as_many rows key c.args.from c.args.to c.loop-next.found c.loop-next.next
    so_far.walked in
    part_counted (rows_between rows key c.args.from c.args.to) c.args.steps.now
    (length (path rows key c.args.to)) (length c.loop-next.found) c.loop-next.steps
    (omega (arith, both)) so_far.counted
