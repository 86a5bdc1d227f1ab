use Rattle.std.proofs.Common.{length}
use Rattle.follower_steps.proofs.Nearby.{none_ahead}
use Rattle.follow_core.proofs.follower.Follower.new.Goals as goal

pub invariant_of-result : goal.invariant_of-result
invariant_of-result c = rw c.new.ensures.items (none_ahead (length c.args.node.chain.digests))
