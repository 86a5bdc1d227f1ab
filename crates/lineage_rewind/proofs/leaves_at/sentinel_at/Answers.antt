use Rattle.std.proofs.Common.{arith}
use Rattle.lineage_rewind.proofs.LeavesAt.{as_many, count_within, sentinel_made}
use Rattle.lineage_rewind.proofs.leaves_at.sentinel_at.Goals as goal

pub next_key-requires-clause-index : goal.next_key-requires-clause-index
next_key-requires-clause-index c =
    let given = c.requires in
    let a = given.2 in (
      a.rows,
      a.block_count,
      a.index_is,
      count_within c.args.index.now given.0 c.args.count given.1 a,
    )

pub next_key-requires-clause-some : goal.next_key-requires-clause-some
next_key-requires-clause-some c =
    let given = c.requires in
    omega (arith, as_many c.args.index.now given.0 c.args.count given.1 given.2)

pub returns : goal.returns
returns c at list a =
    sentinel_made c.args.index.now at c.args.count list a c.next_key.result c.no_uses.result
    (c.next_key.ensures a.rows a.block_count a.index_is) c.no_uses.ensures
