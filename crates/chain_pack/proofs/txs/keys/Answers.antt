use Rattle.std.proofs.Common.{[]}
use Rattle.chain_pack.specs.Draws.{key_drawn}
use Rattle.chain_pack.proofs.Repeated.{has_drawn_none, has_drawn_more}
use Rattle.chain_pack.proofs.txs.keys.Goals as goal

pub loop-init : goal.loop-init
loop-init c = rw c.new-keys.ensures (has_drawn_none key_drawn [] c.args.draws.now)

pub loop-preserved : goal.loop-preserved
loop-preserved c = has_drawn_more key_drawn [] c.args.draws.now c.loop.counter c.loop.keys c.push.new.self c.loop.draws c.key.new.self c.key.result c.loop.invariant c.key.ensures.key c.key.ensures.state c.in_ok-push.ensures.ok
