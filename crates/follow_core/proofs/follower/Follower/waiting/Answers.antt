use Rattle.std.proofs.Common.{length, ap, subst, ◌∙◌, arith}
use Rattle.follower_steps.specs.Steps.{AreAhead}
use Rattle.follower_steps.proofs.Nearby.{few_ahead}
use Rattle.follow_core.specs.Follower.{FollowerState}
use Rattle.follow_core.proofs.follower.Follower.waiting.Goals as goal

pub overflow_cast-result : goal.overflow_cast-result
overflow_cast-result c = omega (
  arith,
  c.len.ensures,
  c.self.inside.waiting.ok.0,
  few_ahead (length c.self.inside.node.chain.digests) c.self.inside.waiting.items
      c.self.invariant,
)

pub returns-clause-count : goal.returns-clause-count
returns-clause-count c = c.len.ensures ∙ c.self.inside.waiting.ok.0
    ∙ ap (λ (f : FollowerState). length f.waiting) c.self.view_is

pub returns-clause-ahead : goal.returns-clause-ahead
returns-clause-ahead c = subst
    (λ (f : FollowerState). AreAhead (length f.node.chain.digests) f.waiting) c.self.view_is
    c.self.invariant

pub returns-clause-few : goal.returns-clause-few
returns-clause-few c = omega (
  arith,
  c.len.ensures,
  c.self.inside.waiting.ok.0,
  few_ahead (length c.self.inside.node.chain.digests) c.self.inside.waiting.items
      c.self.invariant,
)
