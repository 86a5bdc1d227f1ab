use Rattle.std.proofs.Common.{◌∙◌, List, refl, ap, arith}
use Rattle.lc_base.specs.declared.row.Row.{Row}
use Rattle.lc_base.specs.History.{latest}
use Rattle.root_laws.specs.Ancestors.{itself, all_inserted, deps_of}
use Rattle.row_walks.proofs.OneMore.{begins, goes_on, ends, ends_full}
use Rattle.row_walks.proofs.tracing.reached.Goals as goal

pub loop-left-init : goal.loop-left-init
loop-left-init c = record {
  same = refl;
  reaching = λ row has own.
      begins c.args.rows.now row c.args.deps.now c.new-wanted.result c.insert_all.new.wanted
      c.new-found.result c.len-left.result c.len-left.ensures.lawful has own c.new-wanted.ensures
      c.in_ok-insert_all.ensures c.new-found.ensures c.len-left.ensures.count;
}

pub loop-left-preserved : goal.loop-left-preserved
loop-left-preserved c =
    let so_far = c.loop-left.invariant in
    let rows = c.args.rows.now in
    let version = c.in-Some.version in
    record {
      same = c.insert_deps_of.ensures.unchanged ∙ so_far.same;
      reaching = λ row has own.
          goes_on rows row.deps c.loop-left.left c.loop-left.found c.loop-left.wanted
          c.take_last.new.self version c.len-left.ensures.lawful c.loop-left-test.true
          c.in-Some.ensures (so_far.reaching row has own) c.insert_deps_of.new.wanted
          c.push.new.self
          (c.in_ok-insert_deps_of.ensures.wanted
          ∙ ap (λ (rs : List Row). all_inserted itself
          (deps_of (latest rs version.key version.block)) c.take_last.new.self) so_far.same)
          c.in_ok-push.ensures.ok;
    }

-- ---- nothing is wanted any more

pub returns-in_default-clause-reached : goal.returns-in_default-clause-reached
returns-in_default-clause-reached c row has own =
    ends c.args.rows.now row.deps c.loop-left.left c.loop-left.found c.loop-left.wanted
    (rw c.in_default.is at c.take_last.ensures) (c.loop-left.invariant.reaching row has own)

-- ---- as many as rows were found

pub returns-clause-reached : goal.returns-clause-reached
returns-clause-reached c row has own =
    ends_full c.args.rows.now row.deps c.loop-left.left c.loop-left.found c.loop-left.wanted
    (omega (arith, c.loop-left-test.false)) (c.loop-left.invariant.reaching row has own)
