use Rattle.std.proofs.Common.{◌+◌, ◌∙◌, arith}
use Rattle.std.proofs.lemmas.List.{length-take-le}
use Rattle.block_log.proofs.Turns.{body_read}
use Rattle.block_log.proofs.reading.read_body.Goals as goal

pub returns-clause-body : goal.returns-clause-body
returns-clause-body g c content told =
    let long = length-take-le (c.args.size + 1) c.args.buffer.now (omega (arith, c.requires.room)) in
    body_read c.args.size c.in_ok-count.count c.args.gate c.read_at.new.buffer _ content (c.in_ok-count.ensures.size ∙ long) c.in_ok-count.ensures.bound (rw told at c.in_ok-count.ensures.bytes)
