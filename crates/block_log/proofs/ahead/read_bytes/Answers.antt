use Rattle.std.proofs.Common.{length}
use Rattle.block_log.proofs.ahead.read_bytes.Goals as goal

pub returns-clause-bytes : goal.returns-clause-bytes
returns-clause-bytes g c image told = record { count = length c.read_at.new.buffer; is = rw told at c.in_ok-count.ensures.bytes }
