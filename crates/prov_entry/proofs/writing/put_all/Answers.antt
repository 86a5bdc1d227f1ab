use Rattle.byte_fields.proofs.WrittenItems.{written_more}
use Rattle.prov_entry.proofs.writing.put_all.Goals as goal

pub loop-item-preserved : goal.loop-item-preserved
loop-item-preserved g c = written_more g.T.Spelled.fields g.T.Spelled.lawful c.args.out.now.items c.loop-item.out.items c.put.new.out.items c.args.items.now c.loop-item.item-index c.item-item.result c.loop-item-test.true c.item-item.is c.in_ok-put.ensures.written c.in_ok-put.ensures.is c.loop-item.invariant
