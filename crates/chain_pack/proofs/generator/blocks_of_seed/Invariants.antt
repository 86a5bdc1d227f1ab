use Rattle.chain_pack.proofs.Generating.{HasGiven}
use Rattle.chain_pack.proofs.generator.blocks_of_seed.Given as goal

abbrev pub invariant-loop : goal.invariant-loop
invariant-loop l = HasGiven l.fn.seed l.fn.blocks l.counter l.generator l.parent l.texts
