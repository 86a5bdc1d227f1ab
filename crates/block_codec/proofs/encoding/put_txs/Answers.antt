use Rattle.byte_fields.proofs.WrittenItems.{written_more}
use Rattle.block_codec.specs.Spelling.{IsTx, text_limit, tx_fields}
use Rattle.block_codec.proofs.encoding.put_txs.Goals as goal

pub loop-tx-preserved : goal.loop-tx-preserved
loop-tx-preserved c =
    let done = rw c.text_limit.ensures.limit at c.in_ok-put_tx.ensures in
    written_more tx_fields (IsTx (text_limit c.args.version)) c.args.out.now.items
    c.loop-tx.out.items c.put_tx.new.out.items c.args.txs.now c.loop-tx.tx-index
    c.tx-item.result c.loop-tx-test.true c.tx-item.is done.written done.lawful
    c.loop-tx.invariant
