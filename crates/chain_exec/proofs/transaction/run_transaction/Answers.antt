use Rattle.chain_exec.proofs.Told.{if_told, unless_memory}
use Rattle.chain_exec.proofs.transaction.run_transaction.Goals as goal

pub returns-in-Set-clause-effect : goal.returns-in-Set-clause-effect
returns-in-Set-clause-effect g c =
    rw (c.in-Set.is, ← c.as_slice.ensures)
    (if_told _ (g.H.Host.rows c.args.host.now) (λ rows. unless_memory _ c.or_memory.result c.run_set.result c.or_memory.ensures.same c.run_set.ensures.effect))
