use Rattle.std.proofs.Common.{arith}
use Rattle.trace_verifier.proofs.Fields.{offset_within}
use Rattle.trace_verifier.proofs.trace_view.read_proof.Goals as goal

pub overflow_sub-result : goal.overflow_sub-result
overflow_sub-result c =
    let low = offset_within c.args.count c.args.reader.now c.in_ok-bytes.bytes.now c.bytes.new.self
    c.in-Err.error c.offset_of-at.result c.in_ok-bytes.ensures c.offset_of-at.ensures
    c.in-Err.ensures.fault in
    omega (arith, low, c.remaining-left.ensures)
