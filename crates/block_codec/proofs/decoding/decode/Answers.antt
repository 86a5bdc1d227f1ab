use Rattle.std.proofs.Common.{arith}
use Rattle.block_codec.proofs.WholeBlocks.{decided, only_this, found_this, offset_this}
use Rattle.block_codec.proofs.decoding.decode.Goals as goal

pub returns-clause-found : goal.returns-clause-found
returns-clause-found c = found_this c.args.bytes.now c.block_in.result (λ i. omega (arith, c.type_inv.bytes i)) c.block_in.ensures

pub returns-clause-only : goal.returns-clause-only
returns-clause-only c = λ block is. only_this c.args.bytes.now c.block_in.result block c.block_in.ensures is

pub returns-clause-decided : goal.returns-clause-decided
returns-clause-decided c = decided

pub returns-clause-offset : goal.returns-clause-offset
returns-clause-offset c = offset_this c.args.bytes.now c.block_in.result (λ i. omega (arith, c.type_inv.bytes i)) c.block_in.ensures
