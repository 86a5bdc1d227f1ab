use Rattle.std.proofs.Common.{◌≡◌, ◌∙◌, List, length, take, refl, ap, subst, sym, arith}
use Rattle.std.proofs.Math.Seq.{take-length}
use Rattle.std.specs.List.{AllByRecursion, filter_map}
use Rattle.std.specs.Option.{option_map}
use Rattle.lc_base.specs.declared.row.Row.{Row}
use Rattle.lc_base.specs.History.{latest}
use Rattle.prov_query.specs.merkle_dag.Staying.{stays_refl, stays_trans}
use Rattle.prov_query.proofs.merkle_dag.Causes.{unblamed}
use Rattle.proof_checks.specs.TraceMaking.{item_of, item_in}
use Rattle.proof_checks.specs.TraceTexts.{IsTraceItem}
use Rattle.lineage_trace.specs.Items.{with_item}
use Rattle.lineage_trace.proofs.Itemed.{one_item}
use Rattle.lineage_trace.proofs.items.items_of.Goals as goal

pub loop-version-init : goal.loop-version-init
loop-version-init g c =
    let none : length c.new-items.result ≡ 0 = ap length c.new-items.ensures in
    record {
      same = stays_refl _ _;
      no_fault = refl;
      items = λ known last. c.new-items.ensures;
      lawful = subst (AllByRecursion IsTraceItem) (sym c.new-items.ensures) tt;
      few = omega (arith, none);
    }

pub loop-version-preserved : goal.loop-version-preserved
loop-version-preserved g c =
    let so_far = c.loop-version.invariant in
    let rows = c.args.lineage.now.rows in
    let version = c.version-item.result in
    record {
      same = stays_trans _ _ _ _ _ _ so_far.same c.push_item.ensures.leaves.same;
      no_fault = unblamed _ _ c.in-Ok.ensures.leaves.cause ∙ so_far.no_fault;
      items = λ known last.
          one_item rows c.args.versions.now c.loop-version.version-index version
          c.loop-version.items c.push_item.new.items c.loop-version-test.true c.version-item.is last
          (c.in-Ok.ensures.items (so_far.same.retains.known ∙ known)
          ∙ ap (λ (rs : List Row). with_item c.loop-version.items
          (option_map (item_of rs) (latest rs version.key version.block))) so_far.same.rows)
          (so_far.items known last);
      lawful = c.in-Ok.ensures.lawful;
      few = omega (arith, c.in-Ok.ensures.few, so_far.few);
    }

pub returns-clause-items : goal.returns-clause-items
returns-clause-items g c known last =
    let versions = c.args.versions.now in
    let all : c.loop-version.version-index ≡ length versions =
    omega (arith, c.loop-version-test.false, c.loop-version.auto.version-index-end) in
    c.loop-version.invariant.items known last
    ∙ ap (filter_map (item_in c.args.lineage.now.rows))
    (ap (λ n. take n versions) all ∙ take-length versions)

pub returns-clause-few : goal.returns-clause-few
returns-clause-few g c =
    omega (arith, c.loop-version.invariant.few, c.loop-version.auto.version-index-end)
