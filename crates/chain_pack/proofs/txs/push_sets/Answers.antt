use Rattle.chain_pack.specs.GeneratedTransactions.{set_drawn}
use Rattle.chain_pack.proofs.Repeated.{has_drawn_none, has_drawn_more}
use Rattle.chain_pack.proofs.txs.push_sets.Goals as goal

pub loop-init : goal.loop-init
loop-init c = has_drawn_none set_drawn c.args.txs.now c.args.draws.now

pub loop-preserved : goal.loop-preserved
loop-preserved c = has_drawn_more set_drawn c.args.txs.now c.args.draws.now c.loop.counter c.loop.txs c.push.new.self c.loop.draws c.set.new.draws c.in_ok-set.field-0 c.loop.invariant c.in_ok-set.ensures.tx c.in_ok-set.ensures.state c.in_ok-push.ensures.ok
