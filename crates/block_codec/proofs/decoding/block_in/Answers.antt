use Rattle.std.proofs.Common.{arith}
use Rattle.block_codec.proofs.WholeBlocks.{left_is}
use Rattle.block_codec.proofs.decoding.block_in.Goals as goal

pub overflow_sub-bytes : goal.overflow_sub-bytes
overflow_sub-bytes c = left_is c.args.bytes.now c.in-Err-Fault.fault.left (λ i. omega (arith, c.type_inv.bytes i)) (rw c.in-Err-Fault.field-0-is at c.in-Err-Fault.ensures)
