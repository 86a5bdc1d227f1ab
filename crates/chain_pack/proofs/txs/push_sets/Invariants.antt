use Rattle.chain_pack.specs.GeneratedTransactions.{set_drawn}
use Rattle.chain_pack.proofs.Repeated.{HasDrawn}
use Rattle.chain_pack.proofs.txs.push_sets.Given as goal

abbrev pub invariant-loop : goal.invariant-loop
invariant-loop l = HasDrawn set_drawn l.fn.txs l.fn.draws l.counter l.txs l.draws
