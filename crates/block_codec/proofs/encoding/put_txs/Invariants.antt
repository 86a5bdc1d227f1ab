use Rattle.std.proofs.Common.{take}
use Rattle.byte_fields.proofs.WrittenItems.{Written}
use Rattle.block_codec.specs.Spelling.{IsTx, text_limit, tx_fields}
use Rattle.block_codec.proofs.encoding.put_txs.Given as goal

abbrev pub invariant-loop-tx : goal.invariant-loop-tx
invariant-loop-tx l =
    Written tx_fields (IsTx (text_limit l.version)) l.fn.out.items l.out.items
    (take l.tx-index l.txs)
