use Rattle.std.proofs.Common.{[]}
use Rattle.chain_pack.specs.Draws.{key_drawn}
use Rattle.chain_pack.proofs.Repeated.{HasDrawn}
use Rattle.chain_pack.proofs.txs.keys.Given as goal

abbrev pub invariant-loop : goal.invariant-loop
invariant-loop l = HasDrawn key_drawn [] l.fn.draws l.counter l.keys l.draws
