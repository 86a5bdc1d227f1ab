use Rattle.std.proofs.Common.{arith}
use Rattle.root_laws.specs.Ancestors.{all_inserted, itself}
use Rattle.row_walks.proofs.InTurn.{one_inserted, none_left}
use Rattle.row_walks.proofs.wanted.insert_all.Goals as goal

pub loop-version-preserved : goal.loop-version-preserved
loop-version-preserved c = one_inserted c.args.versions.now c.loop-version.version-index
    c.version-item.result c.loop-version.wanted c.insert.new.self
    (all_inserted itself c.args.versions.now c.args.wanted.now) c.loop-version-test.true
    c.version-item.is c.in_ok-insert.ensures c.loop-version.invariant

pub returns : goal.returns
returns c = none_left c.args.versions.now c.loop-version.version-index c.loop-version.wanted
    (all_inserted itself c.args.versions.now c.args.wanted.now)
    (omega (arith, c.loop-version-test.false)) c.loop-version.invariant
