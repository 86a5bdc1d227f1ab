use Rattle.std.proofs.Common.{◌≡◌, ◌≤◌, ◌+◌, ◌*◌, ◌<◌, ◌^◌, ◌++◌, ◌∷◌, [], ℕ, ◌∙◌, List}
use Rattle.std.proofs.Common.{length, refl, sym, ap, subst, arith}
use Rattle.std.proofs.lemmas.List.{length-append}
use Rattle.lc_base.specs.declared.digest.Digest.{Digest}
use Rattle.lc_base.specs.declared.row.Dep.{Dep}
use Rattle.lc_base.specs.declared.row.Row.{Row}
use Rattle.lc_base.specs.History.{latest}
use Rattle.skip_links.specs.Paths.{path}
use Rattle.entry_store.specs.Steps.{raised_count}
use Rattle.prov_query.specs.merkle_dag.Ledger.{most_looked_at}
use Rattle.prov_query.specs.merkle_dag.Staying.{stays_refl, stays_trans}
use Rattle.prov_query.proofs.merkle_dag.Causes.{unblamed}
use Rattle.root_laws.specs.Ancestors.{itself, all_inserted, deps_of}
use Rattle.root_laws.specs.AncestorSteps.{steps_of}
use Rattle.lineage_trace.proofs.Counts.{none_counted, one_counted, rises_found, stays_counted}
use Rattle.lineage_trace.proofs.Counts.{few_more, few_of_all}
use Rattle.row_walks.proofs.OneMore.{begins, goes_on, ends, ends_full}
use Rattle.lineage_trace.proofs.OneMore.{counted_so_far}
use Rattle.lineage_trace.proofs.reaching.reached.Goals as goal

pub loop-left-init : goal.loop-left-init
loop-left-init g c =
    let rows = c.args.lineage.now.rows in
    let fits : c.args.steps.now < 2 ^ 64 =
    omega (arith, c.count-count.type_inv, c.count-count.ensures) in
    let nothing : length c.new-found.result ≡ 0 = ap length c.new-found.ensures in
    record {
      same = stays_refl _ _;
      no_fault = refl;
      room = omega (arith, nothing, c.row_count-left.ensures.count);
      few = omega arith;
      counted = none_counted rows c.new-found.result c.args.steps.now fits c.new-found.ensures;
      reaching = λ known row has own.
          begins rows row c.args.deps.now c.new-wanted.result c.insert_all.new.wanted
          c.new-found.result c.row_count-left.result c.row_count-left.ensures.ledger.lawful has own
          c.new-wanted.ensures c.in_ok-insert_all.ensures c.new-found.ensures
          c.row_count-left.ensures.count;
    }

pub loop-left-preserved : goal.loop-left-preserved
loop-left-preserved g c =
    let so_far = c.loop-left.invariant in
    let rows = c.args.lineage.now.rows in
    let version = c.in-Some.version in
    let found = c.loop-left.found in
    let left = c.loop-left.left in
    let pushed : c.push.new.self ≡ found ++ version ∷ [] = c.in_ok-push.ensures.ok in
    let longer : length c.push.new.self ≡ length found + 1 =
    ap length pushed ∙ length-append found (version ∷ []) in
    record {
      same = stays_trans _ _ _ _ _ _ so_far.same c.insert_deps_of.ensures.leaves.same;
      no_fault = unblamed _ _ c.in-Ok.ensures.leaves.cause ∙ so_far.no_fault;
      room = omega (arith, so_far.room, longer, c.loop-left-test.true);
      few = subst (λ (n : ℕ). c.insert_deps_of.new.steps ≤ c.args.steps.now
          + n * most_looked_at c.args.lineage.now.digests) (sym longer)
          (few_more (length found) (most_looked_at c.args.lineage.now.digests) c.args.steps.now
          c.loop-left.steps c.insert_deps_of.new.steps so_far.few
          (subst (λ (digests : List Digest). c.insert_deps_of.new.steps ≤ c.loop-left.steps
          + most_looked_at digests) so_far.same.digests c.insert_deps_of.ensures.few));
      counted = one_counted rows found version c.args.steps.now c.loop-left.steps
          c.insert_deps_of.new.steps so_far.counted
          (c.insert_deps_of.ensures.count
          ∙ ap (λ (rs : List Row). raised_count c.loop-left.steps
          (length (path rs version.key version.block))) so_far.same.rows)
          ∙ ap (λ (vs : List Dep). raised_count c.args.steps.now (steps_of rows vs)) (sym pushed);
      reaching = λ known row has own.
          goes_on rows row.deps left found c.loop-left.wanted c.take_last.new.self version
          c.row_count-left.ensures.ledger.lawful c.loop-left-test.true c.in-Some.ensures
          (so_far.reaching known row has own) c.insert_deps_of.new.wanted c.push.new.self
          (c.in-Ok.ensures.wanted (so_far.same.retains.known ∙ known)
          ∙ ap (λ (rs : List Row). all_inserted itself
          (deps_of (latest rs version.key version.block)) c.take_last.new.self) so_far.same.rows)
          pushed;
    }

-- ---- nothing is wanted any more

pub returns-in_default-clause-reached : goal.returns-in_default-clause-reached
returns-in_default-clause-reached g c known row has own =
    ends c.args.lineage.now.rows row.deps c.loop-left.left c.loop-left.found c.loop-left.wanted
    (rw c.in_default.is at c.take_last.ensures)
    (c.loop-left.invariant.reaching known row has own)

pub returns-in_default-clause-counted : goal.returns-in_default-clause-counted
returns-in_default-clause-counted g c known row has own =
    c.loop-left.invariant.counted
    ∙ ap (λ (vs : List Dep). raised_count c.args.steps.now (steps_of c.args.lineage.now.rows vs))
    (ends c.args.lineage.now.rows row.deps c.loop-left.left c.loop-left.found c.loop-left.wanted
    (rw c.in_default.is at c.take_last.ensures)
    (c.loop-left.invariant.reaching known row has own))

pub returns-in_default-clause-rises : goal.returns-in_default-clause-rises
returns-in_default-clause-rises g c known row has own =
    rises_found c.args.lineage.now.rows c.loop-left.found _ c.args.steps.now c.loop-left.steps
    (omega (arith, c.count-count.type_inv, c.count-count.ensures))
    (ends c.args.lineage.now.rows row.deps c.loop-left.left c.loop-left.found c.loop-left.wanted
    (rw c.in_default.is at c.take_last.ensures)
    (c.loop-left.invariant.reaching known row has own)) c.loop-left.invariant.counted

pub returns-in_default-clause-short : goal.returns-in_default-clause-short
returns-in_default-clause-short g c = omega (arith, c.loop-left.invariant.room)

pub returns-in_default-clause-looked_up : goal.returns-in_default-clause-looked_up
returns-in_default-clause-looked_up g c = c.loop-left.invariant.counted

pub returns-in_default-clause-few : goal.returns-in_default-clause-few
returns-in_default-clause-few g c = c.loop-left.invariant.few

pub returns-in_default-clause-bounded : goal.returns-in_default-clause-bounded
returns-in_default-clause-bounded g c =
    few_of_all (length c.loop-left.found) (length c.args.lineage.now.rows)
    (most_looked_at c.args.lineage.now.digests) c.args.steps.now c.loop-left.steps
    (omega (arith, c.loop-left.invariant.room)) c.loop-left.invariant.few

-- ---- as many as rows were found

pub returns-clause-reached : goal.returns-clause-reached
returns-clause-reached g c known row has own =
    ends_full c.args.lineage.now.rows row.deps c.loop-left.left c.loop-left.found
    c.loop-left.wanted (omega (arith, c.loop-left-test.false))
    (c.loop-left.invariant.reaching known row has own)

pub returns-clause-counted : goal.returns-clause-counted
returns-clause-counted g c known row has own =
    c.loop-left.invariant.counted
    ∙ ap (λ (vs : List Dep). raised_count c.args.steps.now (steps_of c.args.lineage.now.rows vs))
    (ends_full c.args.lineage.now.rows row.deps c.loop-left.left c.loop-left.found
    c.loop-left.wanted (omega (arith, c.loop-left-test.false))
    (c.loop-left.invariant.reaching known row has own))

pub returns-clause-rises : goal.returns-clause-rises
returns-clause-rises g c known row has own =
    rises_found c.args.lineage.now.rows c.loop-left.found _ c.args.steps.now c.loop-left.steps
    (omega (arith, c.count-count.type_inv, c.count-count.ensures))
    (ends_full c.args.lineage.now.rows row.deps c.loop-left.left c.loop-left.found
    c.loop-left.wanted (omega (arith, c.loop-left-test.false))
    (c.loop-left.invariant.reaching known row has own)) c.loop-left.invariant.counted

pub returns-clause-short : goal.returns-clause-short
returns-clause-short g c = omega (arith, c.loop-left.invariant.room)

pub returns-clause-looked_up : goal.returns-clause-looked_up
returns-clause-looked_up g c = c.loop-left.invariant.counted

pub returns-clause-few : goal.returns-clause-few
returns-clause-few g c = c.loop-left.invariant.few

pub returns-clause-bounded : goal.returns-clause-bounded
returns-clause-bounded g c =
    few_of_all (length c.loop-left.found) (length c.args.lineage.now.rows)
    (most_looked_at c.args.lineage.now.digests) c.args.steps.now c.loop-left.steps
    (omega (arith, c.loop-left.invariant.room)) c.loop-left.invariant.few

-- ---- a call failed

pub returns-in_err-insert_all-clause-rises : goal.returns-in_err-insert_all-clause-rises
returns-in_err-insert_all-clause-rises g c known row has own =
    stays_counted _ c.args.steps.now (omega (arith, c.count-count.type_inv, c.count-count.ensures))

pub returns-in_err-insert_all-clause-bounded : goal.returns-in_err-insert_all-clause-bounded
returns-in_err-insert_all-clause-bounded g c = omega arith

pub returns-in-Err-clause-rises : goal.returns-in-Err-clause-rises
returns-in-Err-clause-rises g c known row has own =
    let so_far = c.loop-left.invariant in
    let version = c.in-Some.version in
    counted_so_far c.args.lineage.now.rows row.deps c.loop-left.left c.loop-left.found
    c.loop-left.wanted c.take_last.new.self version c.row_count-left.ensures.ledger.lawful
    c.loop-left-test.true c.in-Some.ensures (so_far.reaching known row has own) c.args.steps.now
    c.loop-left.steps c.insert_deps_of.new.steps
    (omega (arith, c.count-count.type_inv, c.count-count.ensures)) so_far.counted
    (c.insert_deps_of.ensures.count
    ∙ ap (λ (rs : List Row). raised_count c.loop-left.steps
    (length (path rs version.key version.block))) so_far.same.rows)

pub returns-in-Err-clause-bounded : goal.returns-in-Err-clause-bounded
returns-in-Err-clause-bounded g c =
    let so_far = c.loop-left.invariant in
    let most = most_looked_at c.args.lineage.now.digests in
    few_of_all (length c.loop-left.found + 1) (length c.args.lineage.now.rows) most
    c.args.steps.now c.insert_deps_of.new.steps
    (omega (arith, so_far.room, c.loop-left-test.true))
    (few_more (length c.loop-left.found) most c.args.steps.now c.loop-left.steps
    c.insert_deps_of.new.steps so_far.few
    (subst (λ (digests : List Digest). c.insert_deps_of.new.steps ≤ c.loop-left.steps
    + most_looked_at digests) so_far.same.digests c.insert_deps_of.ensures.few))

pub returns-in_err-push-clause-rises : goal.returns-in_err-push-clause-rises
returns-in_err-push-clause-rises g c known row has own =
    let so_far = c.loop-left.invariant in
    let version = c.in-Some.version in
    counted_so_far c.args.lineage.now.rows row.deps c.loop-left.left c.loop-left.found
    c.loop-left.wanted c.take_last.new.self version c.row_count-left.ensures.ledger.lawful
    c.loop-left-test.true c.in-Some.ensures (so_far.reaching known row has own) c.args.steps.now
    c.loop-left.steps c.insert_deps_of.new.steps
    (omega (arith, c.count-count.type_inv, c.count-count.ensures)) so_far.counted
    (c.insert_deps_of.ensures.count
    ∙ ap (λ (rs : List Row). raised_count c.loop-left.steps
    (length (path rs version.key version.block))) so_far.same.rows)

pub returns-in_err-push-clause-bounded : goal.returns-in_err-push-clause-bounded
returns-in_err-push-clause-bounded g c =
    let so_far = c.loop-left.invariant in
    let most = most_looked_at c.args.lineage.now.digests in
    few_of_all (length c.loop-left.found + 1) (length c.args.lineage.now.rows) most
    c.args.steps.now c.insert_deps_of.new.steps
    (omega (arith, so_far.room, c.loop-left-test.true))
    (few_more (length c.loop-left.found) most c.args.steps.now c.loop-left.steps
    c.insert_deps_of.new.steps so_far.few
    (subst (λ (digests : List Digest). c.insert_deps_of.new.steps ≤ c.loop-left.steps
    + most_looked_at digests) so_far.same.digests c.insert_deps_of.ensures.few))
