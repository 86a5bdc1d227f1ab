use Rattle.std.proofs.Common.{◌*◌, length, refl, arith}
use Rattle.std.proofs.lemmas.Result.{err_from_is_err_and}
use Rattle.light_client.proofs.Taking.{stopped_after}
use Rattle.light_client.proofs.reading.blocks.Goals as goal

pub returns-in_err-append_piece-clause-bytes : goal.returns-in_err-append_piece-clause-bytes
returns-in_err-append_piece-clause-bytes g c =
    let p = err_from_is_err_and c.from_residual.result c.from_residual.ensures.1 in
    let bytes = c.loop-bytes.bytes.items in
    rw (p.1, p.2) (stopped_after (length bytes) _ (64 * c.args.count)
    (g.I.Source.left c.args.source.now) (g.I.Source.left c.loop-bytes.source)
    (g.I.Source.left c.append_piece.new.source)
    bytes c.in_err-append_piece.field-0.0 refl
    (omega (
      arith,
      c.len-in-loop-bytes.ensures,
      c.loop-bytes.bytes.ok,
      c.loop-bytes.invariant.within,
    )) c.loop-bytes.invariant.taken
    c.in_err-append_piece.ensures.bytes)
