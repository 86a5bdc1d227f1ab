use Rattle.std.proofs.lemmas.Result.{err_from_is_err_and}
use Rattle.byte_fields.specs.Reading.{items_at}
use Rattle.byte_fields.proofs.Loops.{goes_on, is_done}
use Rattle.block_codec.specs.Reading.{tx_at}
use Rattle.byte_fields.proofs.Loops.{ends_kept}
use Rattle.block_codec.proofs.decoding.counted_txs.Goals as goal

pub returns-in_err-tx : goal.returns-in_err-tx
returns-in_err-tx c =
    let read = tx_at c.args.most in
    let p = err_from_is_err_and c.from_residual.result c.from_residual.ensures.1 in
    rw (p.1, p.2) (ends_kept read c.loop.txs c.args.count c.loop.counter c.loop.reader
    c.in_err-tx.field-0.0 c.tx.new.reader (items_at read c.args.count c.args.reader.now)
    c.loop-test.true c.in_err-tx.ensures c.loop.invariant)

pub loop-preserved : goal.loop-preserved
loop-preserved c =
    let read = tx_at c.args.most in
    rw c.in_ok-push.ensures.ok (goes_on read c.loop.txs c.args.count c.loop.counter c.loop.reader
    c.in_ok-tx.tx c.tx.new.reader (items_at read c.args.count c.args.reader.now)
    c.loop-test.true c.in_ok-tx.ensures c.loop.invariant)

pub returns : goal.returns
returns c =
    let read = tx_at c.args.most in
    is_done read c.loop.txs c.args.count c.loop.counter c.loop.reader
    (items_at read c.args.count c.args.reader.now) c.loop-test.false c.loop.invariant
