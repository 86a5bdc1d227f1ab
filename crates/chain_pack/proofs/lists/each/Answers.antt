use Rattle.std.proofs.Common.{ap}
use Rattle.std.specs.Result.{result_ok}
use Rattle.std.proofs.lemmas.Result.{err_from_is_err_and}
use Rattle.serde_json.specs.View.{view}
use Rattle.chain_pack.proofs.Each.{made_more, made_all, missed}
use Rattle.chain_pack.proofs.lists.each.Goals as goal

pub returns-in_err-value-clause-reads : goal.returns-in_err-value-clause-reads
returns-in_err-value-clause-reads g c =
    let p = err_from_is_err_and c.from_residual.result c.from_residual.ensures.1 in
    rw (p.1, p.2) (record { read = missed view (g.T.FromJson.made c.args.longest) (g.T.FromJson.lawful c.args.longest) c.args.items.now c.loop-item.item-index c.loop-item.list c.item-item.result c.in_err-value.field-0.0 c.loop-item-test.true c.item-item.is c.in_err-value.ensures.read c.loop-item.invariant; lawful = tt })

pub loop-item-preserved : goal.loop-item-preserved
loop-item-preserved g c =
    rw c.in-Ok.ensures.ok (made_more view (g.T.FromJson.made c.args.longest) (g.T.FromJson.lawful c.args.longest) c.args.items.now c.loop-item.item-index c.loop-item.list c.item-item.result c.in_ok-value.value c.loop-item-test.true c.item-item.is c.in_ok-value.ensures.read c.in_ok-value.ensures.lawful c.loop-item.invariant)

pub returns-clause-reads : goal.returns-clause-reads
returns-clause-reads g c = record { read = ap result_ok (made_all view (g.T.FromJson.made c.args.longest) (g.T.FromJson.lawful c.args.longest) c.args.items.now c.loop-item.item-index c.loop-item.list c.loop-item-test.false c.loop-item.invariant); lawful = c.loop-item.invariant.lawful }
