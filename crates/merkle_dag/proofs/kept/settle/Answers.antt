use Rattle.merkle_dag.proofs.RowBodies.{keeps_settled, rows_same}
use Rattle.merkle_dag.proofs.kept.settle.Goals as goal

pub returns-clause-rows : goal.returns-clause-rows
returns-clause-rows c = rows_same c.args.kept.now.index c.settle.new.self
    c.settle.ensures.store

pub returns-clause-whole : goal.returns-clause-whole
returns-clause-whole c =
    let kept = c.args.kept.now in
    keeps_settled kept.index c.settle.new.self kept.bodies kept.digests.items kept.roots.items
    c.settle.ensures.store c.settle.ensures.index c.requires.whole
