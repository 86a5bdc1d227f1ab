use Rattle.std.proofs.Common.{◌≡◌, ◌-◌}
use Rattle.byte_fields.specs.Reading.{items_at}
use Rattle.block_codec.specs.Reading.{tx_at}
use Rattle.byte_fields.proofs.Loops.{with_prefix}
use Rattle.block_codec.proofs.decoding.counted_txs.Given as goal

abbrev pub invariant-loop : goal.invariant-loop
invariant-loop l =
    with_prefix l.txs (items_at (tx_at l.most) (l.count - l.counter) l.reader)
    ≡ items_at (tx_at l.most) l.count l.initial.reader
