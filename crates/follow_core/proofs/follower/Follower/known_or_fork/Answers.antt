use Rattle.std.proofs.Common.{ap, arith}
use Rattle.block_codec.specs.Placement.{bytes_digest}
use Rattle.block_codec.proofs.WholeBlocks.{decided}
use Rattle.follow_core.proofs.follower.Follower.known_or_fork.Goals as goal

pub returns-clause-spelled : goal.returns-clause-spelled
returns-clause-spelled c block read = ap bytes_digest
    (decided.found c.args.bytes.now block (λ i. omega (arith, c.type_inv.bytes i)) read).spelled
