use Rattle.std.proofs.Common.{ap}
use Rattle.serde_json.specs.View.{view}
use Rattle.block_codec.specs.Spelling.{text_limit, IsTx}
use Rattle.chain_pack.specs.Transactions.{tx_in}
use Rattle.chain_pack.specs.Draft.{at_block}
use Rattle.chain_pack.proofs.Each.{made_more, made_but, made_all}
use Rattle.chain_pack.proofs.block.txs_at.Goals as goal

pub returns-in-Err-Shape-clause-read : goal.returns-in-Err-Shape-clause-read
returns-in-Err-Shape-clause-read c =
    let longest = text_limit c.args.version in
    let read = rw (c.text_limit.ensures.limit, c.in-Err-Shape.field-0-is) at
    c.in-Err-Shape.ensures.read in
    rw (c.len.ensures, c.loop-item.invariant.counted)
    (ap (at_block c.args.block) (made_but view (tx_in longest) (IsTx longest) c.args.items.now
    c.loop-item.item-index c.loop-item.txs c.item-item.result c.loop-item-test.true c.item-item.is
    read c.loop-item.invariant))

pub loop-item-preserved : goal.loop-item-preserved
loop-item-preserved c =
    let longest = text_limit c.args.version in
    let done = rw c.text_limit.ensures.limit at c.in-Ok.ensures in
    rw c.in_ok-push-in-Ok.ensures.ok (made_more view (tx_in longest) (IsTx longest) c.args.items.now
    c.loop-item.item-index c.loop-item.txs c.item-item.result c.in-Ok.tx c.loop-item-test.true
    c.item-item.is done.read done.lawful c.loop-item.invariant)

pub returns-clause-read : goal.returns-clause-read
returns-clause-read c =
    let longest = text_limit c.args.version in
    ap (at_block c.args.block) (made_all view (tx_in longest) (IsTx longest) c.args.items.now
    c.loop-item.item-index c.loop-item.txs c.loop-item-test.false c.loop-item.invariant)
