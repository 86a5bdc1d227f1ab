use Rattle.byte_fields.proofs.WrittenItems.{written_more}
use Rattle.byte_fields.specs.Spelling.{value_fields, IsBlockValue}
use Rattle.block_codec.proofs.encoding.put_args.Goals as goal

pub loop-value-preserved : goal.loop-value-preserved
loop-value-preserved c =
    let done = c.in_ok-put_block_value.ensures in
    written_more value_fields (IsBlockValue c.args.most) c.args.out.now.items c.loop-value.out.items
    c.put_block_value.new.out.items c.args.args.now c.loop-value.value-index c.value-item.result
    c.loop-value-test.true c.value-item.is done.written done.lawful c.loop-value.invariant
