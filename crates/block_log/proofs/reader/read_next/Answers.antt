use Rattle.std.proofs.Common.{take, ◌∙◌, ap}
use Rattle.block_log.proofs.reader.read_next.Goals as goal

pub returns-clause-found : goal.returns-clause-found
returns-clause-found g c content told stored read =
    c.in_ok-next.ensures.found content stored read (λ image there.
    (c.in_ok-found.ensures.found image (told ∙ there), ap (λ n. take n c.read_record.new.buffer) c.record_size-size.ensures ∙ c.in_ok-found.ensures.buffered image (told ∙ there)))
