use Rattle.std.proofs.Common.{length}
use Rattle.merkle_dag.specs.Kept.{rows_kept}
use Rattle.merkle_dag.proofs.LookedAt.{count_few}
use Rattle.merkle_dag.proofs.lineage.Lineage.latest.Goals as goal

pub latest-requires : goal.latest-requires
latest-requires g c = (
  rows_kept c.self.inside.kept.index,
  length
      c.self.inside.kept.digests.items,
  c.self.invariant.index_is,
)

pub returns-clause-latest : goal.returns-clause-latest
returns-clause-latest g c = rw (← c.self.view_is)
    (c.latest.ensures.latest (rows_kept c.self.inside.kept.index)
    (length c.self.inside.kept.digests.items) c.self.invariant.index_is)

pub returns-clause-previous : goal.returns-clause-previous
returns-clause-previous g c = rw (← c.self.view_is)
    (c.latest.ensures.previous (rows_kept c.self.inside.kept.index)
    (length c.self.inside.kept.digests.items) c.self.invariant.index_is)

pub returns-clause-count : goal.returns-clause-count
returns-clause-count g c = rw (← c.self.view_is)
    (c.latest.ensures.count (rows_kept c.self.inside.kept.index)
    (length c.self.inside.kept.digests.items) c.self.invariant.index_is)

pub returns-clause-few : goal.returns-clause-few
returns-clause-few g c = rw (← c.self.view_is)
    (count_few (rows_kept c.self.inside.kept.index) c.self.inside.kept.digests.items c.args.key.now
    c.args.at c.args.steps.now c.latest.new.steps
    c.self.invariant.ledger
    (c.latest.ensures.count (rows_kept c.self.inside.kept.index)
    (length c.self.inside.kept.digests.items) c.self.invariant.index_is))
