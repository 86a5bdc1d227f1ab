use Rattle.state_tree.proofs.Together.{hashes_more}
use Rattle.state_tree.proofs.whole.levels_of.Goals as goal

pub loop-index-preserved : goal.loop-index-preserved
loop-index-preserved c =
    hashes_more c.args.leaves.now c.loop-index.index c.leaf.result c.hash_of.result c.loop-index.levels c.push.new.self c.loop-index.invariant c.leaf.ensures c.hash_of.ensures.hash c.in_ok-push.ensures.ok
