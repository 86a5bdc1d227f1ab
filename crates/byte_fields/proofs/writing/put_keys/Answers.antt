use Rattle.lc_base.specs.KeyBytes.{IsKey}
use Rattle.byte_fields.specs.Spelling.{string_fields}
use Rattle.byte_fields.proofs.WrittenItems.{written_more}
use Rattle.byte_fields.proofs.writing.put_keys.Goals as goal

pub loop-key-preserved : goal.loop-key-preserved
loop-key-preserved c = written_more string_fields IsKey c.args.out.now.items c.loop-key.out.items c.put_key.new.out.items c.args.keys.now c.loop-key.key-index c.key-item.result c.loop-key-test.true c.key-item.is c.in_ok-put_key.ensures.written c.in_ok-put_key.ensures.lawful c.loop-key.invariant
