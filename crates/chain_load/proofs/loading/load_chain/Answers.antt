use Rattle.std.proofs.Common.{◌∙◌}
use Rattle.chain_load.proofs.loading.load_chain.Goals as goal

pub returns-in-Ok-clause-load : goal.returns-in-Ok-clause-load
returns-in-Ok-clause-load g c told =
    c.load_over.ensures.load (c.in-Ok.ensures.retains.known ∙ told) c.args.seed
    (c.in-Ok.ensures.chain told) c.in-Ok.ensures.generator
