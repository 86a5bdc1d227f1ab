use Rattle.merkle_dag.proofs.RowBodies.{keeps_none, rows_none}
use Rattle.merkle_dag.proofs.lineage.Lineage.new.Goals as goal

pub invariant_of-result : goal.invariant_of-result
invariant_of-result c =
    keeps_none c.in_ok-index.index c.in_ok-bodies.bodies c.new-3.result.items c.new-4.result.items
    c.in_ok-index.ensures c.in_ok-bodies.ensures.none c.new-3.ensures.items c.new-4.ensures.items

pub returns-clause-none : goal.returns-clause-none
returns-clause-none c = λ i. record {
  rows = rows_none c.in_ok-index.index c.in_ok-index.ensures i;
  digests = c.new-3.ensures.items
      i;
}
