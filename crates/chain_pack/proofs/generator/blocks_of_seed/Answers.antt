use Rattle.chain_pack.proofs.Generating.{given_none}
use Rattle.chain_pack.proofs.generator.blocks_of_seed.Goals as goal

pub loop-init : goal.loop-init
loop-init c = given_none c.args.seed c.args.blocks c.new-generator.result c.new-texts.result c.new-generator.ensures.start c.new-generator.ensures.none c.new-texts.ensures
