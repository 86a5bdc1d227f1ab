use Rattle.std.proofs.Common.{◌≡◌, ◌≤◌, ◌+◌, ◌-◌, length}
use Rattle.entry_store.specs.Steps.{raised_count}
use Rattle.prov_query.specs.merkle_dag.Ledger.{most_looked_at}
use Rattle.skip_links.specs.Paths.{path}
use Rattle.range_proof.proofs.Counts.{so_many, turns_left}
use Rattle.range_proof.proofs.Walking.{IsWalked}
use Rattle.range_proof.proofs.between.indexes_between.Given as goal

abbrev pub invariant-loop-next : goal.invariant-loop-next
invariant-loop-next g l = record {
  walked : IsWalked l.lineage.rows l.key l.from l.to l.found l.next;
  some : 1 ≤ length l.found;
  counted : l.steps ≡ raised_count l.fn.steps
      (so_many (length (path l.lineage.rows l.key l.to)) (length l.found));
  few : l.steps ≤ l.fn.steps + (most_looked_at l.lineage.digests + (length l.found - 1));
}

abbrev pub decreases-loop-next : goal.decreases-loop-next
decreases-loop-next g l = turns_left l.next
