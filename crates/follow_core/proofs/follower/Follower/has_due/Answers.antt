use Rattle.std.proofs.Common.{ℕ, length, ap, ◌∙◌}
use Rattle.std.specs.Prelude.{Option, is_some}
use Rattle.follower_steps.specs.Steps.{position_of}
use Rattle.follow_core.specs.Follower.{FollowerState}
use Rattle.follow_core.proofs.follower.Follower.has_due.Goals as goal

pub returns : goal.returns
returns c = c.is_some.ensures
    ∙ ap (λ (o : Option ℕ). is_some o) (c.position_of.ensures
    ∙ ap (position_of c.blocks-held.result) c.as_slice.ensures.value
    ∙ ap (λ (n : ℕ). position_of n c.self.inside.waiting.items) c.blocks-held.ensures)
    ∙ ap (λ (f : FollowerState).
    is_some (position_of (length f.node.chain.digests) f.waiting)) c.self.view_is
