use Rattle.std.proofs.Common.{arith}
use Rattle.chain_pack.specs.Generator.{block_drawn}
use Rattle.chain_pack.proofs.Small.{drawn_is_spelled}
use Rattle.chain_pack.proofs.generator.block_drawn.Goals as goal

pub spell-requires : goal.spell-requires
unfolding block_drawn
spell-requires c = rw (c.in_ok-txs.ensures.txs, c.with_known_length.ensures.same) (drawn_is_spelled c.args.number c.args.draws.now c.args.parent (omega (arith, c.ranges.number)) c.with_known_length.ensures.whole)

pub returns-clause-lawful : goal.returns-clause-lawful
unfolding block_drawn
returns-clause-lawful c = rw (← c.in_ok-txs.ensures.txs, ← c.with_known_length.ensures.same) c.spell.ensures.lawful
