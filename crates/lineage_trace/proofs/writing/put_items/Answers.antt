use Rattle.proof_codec.proofs.Written.{written_one}
use Rattle.proof_checks.specs.TraceSpelling.{item_fields}
use Rattle.lineage_trace.proofs.writing.put_items.Goals as goal

pub loop-item-preserved : goal.loop-item-preserved
loop-item-preserved c = written_one item_fields c.args.out.now.items c.loop-item.out.items
    c.put_item.new.out.items c.args.items.now c.loop-item.item-index c.item-item.result
    c.loop-item-test.true c.item-item.is c.in_ok-put_item.ensures c.loop-item.invariant
