use Rattle.std.proofs.Common.{◌≡◌, length, subst, sym}
use Rattle.block_codec.specs.Reading.{block_in}
use Rattle.follower_steps.specs.declared.waiting.Arrival.TheVariants.{Early}
use Rattle.follower_steps.specs.Steps.{arrival_in}
use Rattle.follower_steps.proofs.Nearby.{ahead_kept}
use Rattle.follow_core.specs.Follower.{FollowerState}
use Rattle.follow_core.proofs.follower.Follower.kept.Goals as goal

pub invariant_of-result : goal.invariant_of-result
invariant_of-result c = rw c.in-Ok.ensures.items
    (ahead_kept (length c.self.inside.node.chain.digests) c.self.inside.waiting.items
    c.self.invariant c.args.index c.args.number c.args.bytes
    (subst (λ (f : FollowerState). arrival_in (length f.node.chain.digests) f.waiting
    (block_in c.args.bytes) ≡ Early c.args.number) (sym c.self.view_is) c.requires.early))
