use Rattle.std.proofs.Common.{length, ap, ◌∙◌}
use Rattle.follow_core.specs.Follower.{FollowerState}
use Rattle.follow_core.proofs.Delivered.{arrival_if_told}
use Rattle.follow_core.proofs.follower.Follower.arrival.Goals as goal

pub returns : goal.returns
returns c = arrival_if_told c.args.self.now c.blocks-held.result c.as_slice.result.now
    c.args.bytes.now c.arrival_in.result
    (c.blocks-held.ensures
    ∙ ap (λ (f : FollowerState). length f.node.chain.digests) c.self.view_is)
    (c.as_slice.ensures.value ∙ ap (λ (f : FollowerState). f.waiting) c.self.view_is)
    c.arrival_in.ensures
