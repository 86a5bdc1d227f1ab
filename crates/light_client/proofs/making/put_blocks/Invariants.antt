use Rattle.std.proofs.Common.{◌≡◌, ◌++◌}
use Rattle.light_client.proofs.Made.{bytes_between}
use Rattle.light_client.proofs.making.put_blocks.Given as goal

abbrev pub invariant-loop-at : goal.invariant-loop-at
invariant-loop-at l =
    l.out.items ++ bytes_between l.lineage.rows l.lineage.digests l.at l.until
    ≡ l.fn.out.items ++ bytes_between l.lineage.rows l.lineage.digests l.fn.from l.until
